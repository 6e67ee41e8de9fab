-- Declarations where the same names are in force, and the names behind them.
use Rattle.std.proofs.Common.{◌≡◌, ℕ, List, [], ◌∷◌, sym, refl, inl, inr}
use Rattle.std.specs.Prelude.{Contains}
use Rattle.po_tree.specs.declared.declaration.Decl.{Decl}
use Rattle.po_tree.specs.Signs.{Sign}
use Rattle.po_tree.specs.NameSets.{AreSame}
use Rattle.po_tree.specs.InForce.{InForce}
use Rattle.po_tree.specs.Scope.{AreBehind, IsTypeBehind}
use Rattle.po_tree.specs.Declarations as rule
use Rattle.po_tree.specs.Declarations.{Declared, IsPiece}
use Rattle.po_tree.proofs.SameNames.{declaration_same}
use Rattle.po_tree.proofs.Threaded.{piece_so}
use Rattle.po_decl_steps.specs.Standing.{DeclarationStands}

pub same_back : (a b : List (List ℕ)) → AreSame a b → AreSame b a
same_back a b s x = ((s x).1, (s x).0)

some_specifiers : {types behind : List (List ℕ)} {d : Decl} → Declared types d behind → d.specs ≡ [] → ⊥
some_specifiers (rule.declared types inner types' seen spec specs parts v w) q = cc

no_lone : {types behind : List (List ℕ)} {d : Decl} → IsPiece types d behind → (d.specs ≡ [] → ⊥) → Declared types d behind
no_lone (rule.lone types) some = absurd (some refl)
no_lone (rule.declaration types types' d w) some = w

pub declaration_as : {a b : List (List ℕ)} {signs left : List Sign} {d : Decl} → AreSame a b → DeclarationStands a signs d left → DeclarationStands b signs d left
declaration_as {a = a} {b = b} {d = d} s h =
    let p = declaration_same a b s d h.behind (record { formed = rule.declaration a h.behind d h.formed; nested = h.nested }) in
    record { behind = p.0; formed = no_lone p.1.formed (some_specifiers h.formed); nested = h.nested; printed = h.printed }

type_moved : (a b : List (List ℕ)) (d : Decl) (name : List ℕ) → (Contains a name → Contains b name) → IsTypeBehind a d name → IsTypeBehind b d name
type_moved a b d name f (inl h) = inl h
type_moved a b d name f (inr h) = inr (f h.0, h.1, h.2)

-- the names behind a declaration are those that it leaves in force
pub names_behind : {types : List (List ℕ)} {signs left : List Sign} {d : Decl} {before behind : InForce} → AreSame types before.typedefs → (h : DeclarationStands types signs d left) → AreBehind before d behind →
    AreSame h.behind behind.typedefs
names_behind {types = types} {d = d} {before = before} s h b name =
    let own = piece_so (rule.declaration types h.behind d h.formed) name in
    (λ c. (b.types name).1 (type_moved types before.typedefs d name (s name).0 (own.0 c)), λ c. own.1 (type_moved before.typedefs types d name (s name).1 ((b.types name).0 c)))
