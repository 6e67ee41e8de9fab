mod AssignedTypes
mod DesignatedTypes
mod JoinedTypes
mod PartsOfTypings
mod PrintedTypes
