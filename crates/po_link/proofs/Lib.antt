mod Noted
mod OneMore
mod Owned
mod Joining
mod Carried
mod OneLinked
mod OneFunction
mod OneOutcome
