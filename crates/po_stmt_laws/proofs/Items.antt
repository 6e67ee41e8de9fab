-- Items of a block are read one by one.
use Rattle.std.proofs.Common.{◌≡◌, ◌∙◌, ◌↔◌, ℕ, ◌≤◌, List, [], ◌∷◌, ◌++◌, map, refl, sym, ap, subst, arith}
use Rattle.po_tree.specs.declared.statement.Stmt.{Stmt}
use Rattle.po_tree.specs.declared.statement.Stmt.TheVariants as st
use Rattle.po_tree.specs.Signs.{Sign, brace_end}
use Rattle.po_tree.specs.Printing.{flat_stmt}
use Rattle.po_tree.specs.Heights.{stmt_height, stmt_depth, greatest}
use Rattle.po_tree.specs.Statements as rule
use Rattle.po_tree.specs.Statements.{AreItems}
use Rattle.po_exp_parts.specs.Places.{Begins}
use Rattle.po_fun_laws.proofs.Layers.{items_behind, items_next, declare_before, stmt_height-Declare}
use Rattle.po_fun_laws.proofs.Rules.{items_no_else}
use Rattle.po_stmt_laws.specs.Reading.{ItemsRead}
use Rattle.po_stmt_laws.specs.Continuing.{ItemReads, declaration, statement, FirstItemReads}
use Rattle.po_stmt_laws.proofs.Layers.{stmt_depth-Declare}
use Rattle.po_stmt_laws.proofs.Once.{one_list_read}

-- no item
none_read : {types : List (List ℕ)} {room : ℕ} {signs left : List Sign} → signs ≡ brace_end ∷ left → ItemsRead types room signs [] left
none_read {types = types} q = record { items = record { formed = rule.no_more_items types; nested = omega arith; printed = q }; deep = omega arith }

pub brace_both : {types : List (List ℕ)} {room : ℕ} {left rest : List Sign} {xs : List Stmt} → ItemsRead types room (brace_end ∷ left) xs rest ↔ ((xs ≡ []) × (left ≡ rest))
brace_both {types = types} {room = room} {left = left} {rest = rest} = (
  λ w. let c = one_list_read (none_read {room = room} refl) w in (sym c.0, c.1),
  λ b. subst (λ z. ItemsRead types room (brace_end ∷ left) z rest) (sym b.0) (none_read (ap (λ z. brace_end ∷ z) b.1)),
)

first_read : {types : List (List ℕ)} {room : ℕ} {signs : List Sign} {xs : List Stmt} (left : List Sign) → AreItems types xs → greatest (map stmt_height xs) ≤ 256 → signs ≡ items_behind xs left →
    greatest (map stmt_depth xs) ≤ room → (Begins brace_end signs → ⊥) → FirstItemReads types room signs xs left
first_read left (rule.no_more_items types) low q deep none = absurd (none (subst (Begins brace_end) (sym q) refl))
first_read left (rule.statement types x rest w v) low q deep none = record {
  first = x;
  rest = rest;
  inner = types;
  between = items_behind rest left;
  whole = refl;
  item = statement x (items_behind rest left) (record {
    stands = record { formed = w; nested = omega (arith, low); printed = q ∙ items_next x rest left };
    ends = λ h b. items_no_else left v b;
    deep = omega (arith, deep);
  });
  reads = record { items = record { formed = v; nested = omega (arith, low); printed = refl }; deep = omega (arith, deep) };
}
first_read left (rule.declaration types inner d rest w v) low q deep none = record {
  first = st.Declare d;
  rest = rest;
  inner = inner;
  between = items_behind rest left;
  whole = refl;
  item = declaration d inner (items_behind rest left) (omega (arith, deep, stmt_depth-Declare d)) w (omega (arith, low, stmt_height-Declare d))
      (q ∙ (items_next (st.Declare d) rest left ∙ declare_before d (items_behind rest left)));
  reads = record { items = record { formed = v; nested = omega (arith, low); printed = refl }; deep = omega (arith, deep) };
}

made_of : {types inner : List (List ℕ)} {room : ℕ} {signs between left : List Sign} {x : Stmt} {rest : List Stmt} → ItemReads types room signs x inner between → ItemsRead inner room between rest left →
    ItemsRead types room signs (x ∷ rest) left
made_of {types = types} {inner = inner} {left = left} {rest = rest} (declaration d inner' between some w low q) v =
    record {
      items = record {
        formed = rule.declaration types inner d rest w v.items.formed;
        nested = omega (arith, low, stmt_height-Declare d, v.items.nested);
        printed = q ∙ (sym (declare_before d _) ∙ (ap (λ z. flat_stmt (st.Declare d) ++ z) v.items.printed ∙ sym (items_next (st.Declare d) rest left)));
      };
      deep = omega (arith, some, stmt_depth-Declare d, v.deep);
    }
made_of {types = types} {left = left} {rest = rest} (statement x between w) v =
    record {
      items = record {
        formed = rule.statement types x rest w.stands.formed v.items.formed;
        nested = omega (arith, w.stands.nested, v.items.nested);
        printed = w.stands.printed ∙ (ap (λ z. flat_stmt x ++ z) v.items.printed ∙ sym (items_next x rest left));
      };
      deep = omega (arith, w.deep, v.deep);
    }

pub items_both : {types : List (List ℕ)} {room : ℕ} {signs left : List Sign} {xs : List Stmt} → (Begins brace_end signs → ⊥) → ItemsRead types room signs xs left ↔ FirstItemReads types room signs xs left
items_both {types = types} {room = room} {signs = signs} {left = left} none = (
  λ w. first_read left w.items.formed w.items.nested w.items.printed w.deep none,
  λ b. subst (λ z. ItemsRead types room signs z left) (sym b.whole) (made_of b.item b.reads),
)
