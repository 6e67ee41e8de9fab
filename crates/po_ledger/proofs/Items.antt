-- Items of a ticket's hand.
use Rattle.std.proofs.Common.{◌≡◌, ◌⊎◌, ℕ, zero, suc, ◌<◌, List, [], ◌∷◌, length, set, get_or, sym, ◌∙◌, ap, subst, inl, inr}
use Rattle.std.specs.Prelude.{Bool, true, Some, slice_get}
use Rattle.std.specs.List.{Contains}
use Rattle.std.proofs.lemmas.Option.{slice_get-get_or}
use Rattle.po_base.specs.declared.numbers.FunNo.{FunNo}
use Rattle.po_core.specs.Book.{Book}
use Rattle.po_core.specs.declared.obl.Obl.{Obl}
use Rattle.po_lists.proofs.Members.{Has, has, contains, has_item}
use Rattle.po_ledger.specs.View.{TicketView, IsTicket, AreTables}

-- an item as it is read
pub item_got : {X : Type 0} (inside now read : List X) (k : ℕ) (d : X) → inside ≡ now → k < length now → read ≡ inside → slice_get now k ≡ Some (get_or read k d)
item_got {X} inside now read k d q l r = slice_get-get_or now k d l ∙ ap (λ (z : List X). Some (get_or z k d)) (sym (r ∙ q))

pub item_read : {X : Type 0} (inside now read : List X) (k : ℕ) (e : X) → inside ≡ now → k < length now → read ≡ inside → e ≡ get_or read k e → slice_get now k ≡ Some e
item_read {X} inside now read k e q l r is = item_got inside now read k e q l r ∙ ap (λ (z : X). Some z) (sym is)

set_cases : {X : Type 0} (xs : List X) (k : ℕ) (v z : X) → Has (set xs k v) z → (z ≡ v) ⊎ Has xs z
set_cases [] k v z h = absurd h
set_cases (x ∷ xs) zero v z (inl q) = inl (sym q)
set_cases (x ∷ xs) zero v z (inr h) = inr (inr h)
set_cases (x ∷ xs) (suc k) v z (inl q) = inr (inl q)
set_cases (x ∷ xs) (suc k) v z (inr h) = elim (set_cases xs k v z h) [ inl q ↦ inl q | inr m ↦ inr (inr m) ]

pub ticket_kept : {P N T : Type 0} (b : Book P N T) (hand later : List (Obl P × Bool)) (tables : List (FunNo × T)) (k : ℕ) (e : Obl P × Bool) → IsTicket b hand tables → slice_get hand k ≡ Some e → later ≡ set hand k (e.0, true) → IsTicket b later tables
ticket_kept {P} b hand later tables k e t q is = record {
  items_there = λ o x h. elim (set_cases hand k (e.0, true) (o, x) (has _ (o, x) (subst (λ (z : List (Obl P × Bool)). Contains z (o, x)) is h))) [
    | inl s ↦ subst (λ (z : Obl P). z.fun.0 < b.functions) (sym (ap (λ (z : Obl P × Bool). z.0) s)) (t.items_there e.0 e.1 (contains hand e (has_item hand k e q)))
    | inr m ↦ t.items_there o x (contains hand (o, x) m)
  ];
  tables_right = t.tables_right;
}

pub ticket_with : {P T : Type 0} (inside now : TicketView P T) (h : List (Obl P × Bool)) (k : ℕ) (o : Obl P) → inside ≡ now → h ≡ set inside.hand k (o, true) → ◌≡◌ {A = TicketView P T} (record inside { hand = h }) (record now { hand = set now.hand k (o, true) })
ticket_with {P} {T} inside now h k o q is =
    let first : ◌≡◌ {A = TicketView P T} (record inside { hand = h }) (record inside { hand = set inside.hand k (o, true) }) = ap (λ (z : List (Obl P × Bool)). record inside { hand = z }) is in
    first ∙ ap (λ (z : TicketView P T). let y : TicketView P T = record z { hand = set z.hand k (o, true) } in y) q

pub item_there : {P N T : Type 0} (b of_book : Book P N T) (inside now : TicketView P T) (k : ℕ) (o : Obl P) → of_book ≡ b → inside ≡ now → IsTicket b inside.hand inside.tables → (x : Bool) × (slice_get now.hand k ≡ Some (o, x)) → o.fun.0 < of_book.functions
item_there {P} {N} {T} b of_book inside now k o same seen t item =
    let here : slice_get inside.hand k ≡ Some (o, item.0) = ap (λ (z : TicketView P T). slice_get z.hand k) seen ∙ item.1 in
    subst (λ (z : Book P N T). o.fun.0 < z.functions) (sym same) (t.items_there o item.0 (contains inside.hand (o, item.0) (has_item inside.hand k (o, item.0) here)))

pub tables_of : {P N T : Type 0} (b of_book : Book P N T) (tables : List (FunNo × T)) → of_book ≡ b → AreTables b tables → AreTables of_book tables
tables_of {P} {N} {T} b of_book tables same h = subst (λ (z : Book P N T). AreTables z tables) (sym same) h

pub ticket_tables : {P N T : Type 0} (b of_book : Book P N T) (hand : List (Obl P × Bool)) (old tables : List (FunNo × T)) → of_book ≡ b → IsTicket b hand old → AreTables of_book tables → IsTicket b hand tables
ticket_tables {P} {N} {T} b of_book hand old tables same t h = record { items_there = t.items_there; tables_right = subst (λ (z : Book P N T). AreTables z tables) same h }
