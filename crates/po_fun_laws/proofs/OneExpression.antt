-- Of two expressions at the front of the same signs, each before a semicolon, a closing parenthesis or a colon, one is the other.
use Rattle.std.proofs.Common.{◌≡◌, ◌≤◌, ℕ, List, ◌∷◌, ◌++◌, refl, sym, ap, subst, arith}
use Rattle.std.specs.Prelude.{Option, Some}
use Rattle.po_tree.specs.declared.expression.Exp.{Exp}
use Rattle.po_tree.specs.Signs.{Sign, semicolon, closing, colon}
use Rattle.po_tree.specs.Printing.{flat, optional}
use Rattle.po_tree.specs.Expressions.{Formed}
use Rattle.po_tree.specs.Statements.{IsOptional, missing, there}
use Rattle.po_exp_parts.specs.Continuing.{GoesOn}
use Rattle.po_exp_parts.specs.Reading.{Reads, begun, stop, Operand, leaf, strings, paren, unary, size_of_type, cast}
use Rattle.po_exp_parts.proofs.Fronts.{class_first, class_operand, operand_told, leaf_most}
use Rattle.po_exp_read.proofs.Comparing.{ends_same, goes_on-none, goes_on-colon, goes_on-closing, punct_string}
use Rattle.po_exp_read.proofs.Compared.{reads_compared}
use Rattle.po_exp_read.proofs.Complete.{reads_complete}

-- what ends an expression in a statement
pub data IsStop : Sign → Type 0 where
  before_semicolon : IsStop semicolon
  before_closing : IsStop closing
  before_colon : IsStop colon

stops : (sign : Sign) (ts : List Sign) → IsStop sign → GoesOn 0 (sign ∷ ts) → ⊥
stops sign ts before_semicolon g = goes_on-none 0 semicolon ts (semicolon ∷ ts) refl (punct_string _) refl g
stops sign ts before_closing g = goes_on-closing 0 ts g
stops sign ts before_colon g = goes_on-colon 0 ts g

pub formed_reads : {types : List (List ℕ)} {m : ℕ} {x : Exp} (us : List Sign) → Formed types m x → Reads types 0 (flat x ++ us) x us
formed_reads {m = m} {x = x} us w = reads_complete w (omega arith) (stop 0 m x us)

pub one_expression : {types : List (List ℕ)} {m n : ℕ} {x y : Exp} {a b : Sign} {us vs : List Sign} → IsStop a → IsStop b → Formed types m x → Formed types n y →
    flat x ++ (a ∷ us) ≡ flat y ++ (b ∷ vs) → (x ≡ y) × (a ∷ us ≡ b ∷ vs)
one_expression {types = types} {y = y} {a = a} {b = b} {us = us} {vs = vs} h g w v q =
    ends_same (stops a us h) (stops b vs g) (reads_compared (formed_reads (a ∷ us) w) (subst (λ z. Reads types 0 z y (b ∷ vs)) (sym q) (formed_reads (b ∷ vs) v)))

class_low : {types : List (List ℕ)} {m : ℕ} {ts us : List Sign} {x : Exp} → (w : Operand types ts m x us) → class_operand w ≤ 5
class_low (leaf x sign ts w) = omega (arith, leaf_most w)
class_low (strings text texts ts us all w) = omega arith
class_low (paren x ts us w) = omega arith
class_low (unary p x ts us w) = omega arith
class_low (size_of_type t ts us w) = omega arith
class_low (cast t x ts us vs w v) = omega arith

reads_class : {types : List (List ℕ)} {l : ℕ} {ts us : List Sign} {x : Exp} → Reads types l ts x us → class_first ts ≤ 5
reads_class (begun l m x y ts us vs h w c) = omega (arith, operand_told w, class_low w)

stop_class : (sign : Sign) (ts : List Sign) → IsStop sign → class_first (sign ∷ ts) ≡ 9
stop_class sign ts before_semicolon = refl
stop_class sign ts before_closing = refl
stop_class sign ts before_colon = refl

-- no expression begins with what ends one
stop_begins_none : {types : List (List ℕ)} {m : ℕ} {x : Exp} {a : Sign} (us vs : List Sign) → IsStop a → Formed types m x → a ∷ us ≡ flat x ++ vs → ⊥
stop_begins_none {a = a} us vs h w q = omega (arith, stop_class a us h, reads_class (formed_reads vs w), ap class_first q)

pub one_optional : {types : List (List ℕ)} {x y : Option Exp} {a : Sign} {us vs : List Sign} → IsStop a → IsOptional types x → IsOptional types y →
    optional flat x ++ (a ∷ us) ≡ optional flat y ++ (a ∷ vs) → (x ≡ y) × (a ∷ us ≡ a ∷ vs)
one_optional h missing missing q = (refl, q)
one_optional {us = us} {vs = vs} h missing (there m y w) q = absurd (stop_begins_none us _ h w q)
one_optional {us = us} {vs = vs} h (there m x w) missing q = absurd (stop_begins_none vs _ h w (sym q))
one_optional h (there m x w) (there n y v) q = let s = one_expression h h w v q in (ap Some s.0, s.1)
