-- The items of a block, one after the other.
use Rattle.std.proofs.Common.{◌≡◌, ◌∙◌, ℕ, ◌<◌, List, [], ◌∷◌, ◌++◌, sym, subst, refl, ap, arith, append_assoc}
use Rattle.std.specs.Prelude.{Option, Some, None}
use Rattle.std.proofs.lemmas.List.{append-nil}
use Rattle.po_base.specs.declared.token.Token.{Token}
use Rattle.po_tree.specs.declared.declaration.Decl.{Decl}
use Rattle.po_tree.specs.declared.statement.Stmt.{Stmt}
use Rattle.po_tree.specs.declared.statement.Stmt.TheVariants as st
use Rattle.po_tree.specs.Signs.{Sign, brace_end}
use Rattle.po_tree.specs.NameSets.{AreSame}
use Rattle.po_exp_parts.specs.Places.{signs_between, Begins}
use Rattle.po_decl_steps.specs.Standing.{DeclarationStands}
use Rattle.po_stmt_laws.specs.Reading.{StatementReads, ItemsRead}
use Rattle.po_stmt_laws.specs.Continuing.{ItemReads, declaration, statement}
use Rattle.po_stmt_laws.proofs.Once.{one_item_read}
use Rattle.po_stmt_laws.proofs.Items.{brace_both, items_both}
use Rattle.po_stmt_read.specs.Reads.{IsRead, IsItemRead}
use Rattle.po_stmt_read.proofs.Reading.{without_room}

-- these items are read, and behind them the rest of all that stands there
pub record ItemsLead (types inner : List (List ℕ)) (room : ℕ) (signs : List Sign) (xs : List Stmt) (left : List Sign) : Type 0 where
  pub on : (ys : List Stmt) (rest : List Sign) → ItemsRead inner room left ys rest → ItemsRead types room signs (xs ++ ys) rest
  pub from : (zs : List Stmt) (rest : List Sign) → ItemsRead types room signs zs rest → (ys : List Stmt) × ItemsRead inner room left ys rest

pub no_items_lead : (types : List (List ℕ)) (room : ℕ) (signs : List Sign) → ItemsLead types types room signs [] signs
no_items_lead types room signs = record { on = λ ys rest h. h; from = λ zs rest h. (zs, h) }

module _ {inner next : List (List ℕ)} {room : ℕ} {left behind : List Sign} {x : Stmt} where
  rest_behind : (Begins brace_end left → ⊥) → ItemReads inner room left x next behind → (zs : List Stmt) (rest : List Sign) → ItemsRead inner room left zs rest → (ys : List Stmt) × ItemsRead next room behind ys rest
  rest_behind none item zs rest h =
      let b = (items_both none).0 h in
      let c = one_item_read b.item item in
      (b.rest, subst (λ z. ItemsRead z room behind b.rest rest) c.1 (subst (λ z. ItemsRead b.inner room z b.rest rest) c.2 b.reads))

module _ {types inner next : List (List ℕ)} {room : ℕ} {signs left behind : List Sign} {xs : List Stmt} {x : Stmt} where
  on_behind : (Begins brace_end left → ⊥) → ItemsLead types inner room signs xs left → ItemReads inner room left x next behind → (ys : List Stmt) (rest : List Sign) → ItemsRead next room behind ys rest →
      ItemsRead types room signs ((xs ++ (x ∷ [])) ++ ys) rest
  on_behind none lead item ys rest h =
      subst (λ z. ItemsRead types room signs z rest) (sym (append_assoc xs (x ∷ []) ys))
      (lead.on (x ∷ ys) rest ((items_both none).1 (record { first = x; rest = ys; inner = next; between = behind; whole = refl; item = item; reads = h })))

  pub item_leads : (Begins brace_end left → ⊥) → ItemsLead types inner room signs xs left → ItemReads inner room left x next behind → ItemsLead types next room signs (xs ++ (x ∷ [])) behind
  item_leads none lead item = record {
    on = on_behind none lead item;
    from = λ zs rest h. let b = lead.from zs rest h in rest_behind none item b.0 rest b.1;
  }

module _ {types inner : List (List ℕ)} {room : ℕ} {signs left rest : List Sign} {xs : List Stmt} where
  -- the closing brace
  pub items_end : ItemsLead types inner room signs xs left → left ≡ brace_end ∷ rest → ItemsRead types room signs xs rest
  items_end lead q =
      subst (λ z. ItemsRead types room signs z rest) (append-nil xs) (lead.on [] rest (subst (λ z. ItemsRead inner room z [] rest) (sym q) (brace_both.1 (refl, refl))))

  -- neither a brace nor an item
  pub without_item : {zs : List Stmt} → (Begins brace_end left → ⊥) → ((s : Stmt) (next : List (List ℕ)) (behind : List Sign) → ItemReads inner room left s next behind → ⊥) → ItemsLead types inner room signs xs left →
      ItemsRead types room signs zs rest → ⊥
  without_item {zs = zs} none stuck lead h =
      let b = lead.from zs rest h in
      let f = (items_both none).0 b.1 in
      stuck f.first f.inner f.between f.item

-- an item

pub item_without_room : {types inner : List (List ℕ)} {room : ℕ} {signs left : List Sign} {s : Stmt} → room ≡ 0 → ItemReads types room signs s inner left → ⊥
item_without_room q (declaration d behind left some w low r) = omega (arith, q, some)
item_without_room q (statement s left w) = without_room q w

no_declaration_item : {types inner : List (List ℕ)} {room : ℕ} {signs left : List Sign} {s : Stmt} → ((d : Decl) (rest : List Sign) → DeclarationStands types signs d rest → ⊥) →
    ((t : Stmt) (rest : List Sign) → StatementReads types room signs t rest → ⊥) → ItemReads types room signs s inner left → ⊥
no_declaration_item none stuck (declaration d behind left some w low r) = none d left (record { behind = behind; formed = w; nested = low; printed = r })
no_declaration_item none stuck (statement s left w) = stuck s left w

-- where no declaration stands, a statement is the item
pub statement_is_item : (types names : List (List ℕ)) (room : ℕ) (tokens : List Token) (at to : ℕ) → AreSame types names →
    ((d : Decl) (rest : List Sign) → DeclarationStands types (signs_between tokens at to) d rest → ⊥) → (found : Option (Stmt × ℕ)) → IsRead (StatementReads types room) tokens at to found →
    IsItemRead types room tokens at to names found
statement_is_item types names room tokens at to same none None stuck = λ s inner left w. no_declaration_item none stuck w
statement_is_item types names room tokens at to same none (Some p) w = (types, same, statement p.0 _ w)
