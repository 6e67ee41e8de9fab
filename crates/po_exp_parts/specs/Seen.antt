-- The type specifiers that were seen (C99 6.7.2).
use Rattle.po_tree.specs.Expressions.{Typed, untyped, by_words, by_name}
use Rattle.po_exp_parts.specs.declared.seen.Seen.{Seen}
use Rattle.po_exp_parts.specs.declared.seen.Seen.TheVariants as seen

-- what sort of type they say
abbrev pub typed : Seen → Typed
typed seen.Nothing = untyped
typed seen.Words = by_words
typed seen.Name = by_name
