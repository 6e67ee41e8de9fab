-- A head, a body and marks make a definition, and a definition is made of them.
use Rattle.std.proofs.Common.{◌≡◌, ◌∙◌, ℕ, ◌≤◌, List, [], ◌∷◌, ◌++◌, map, flat_map, length, take, drop, get_or, refl, sym, ap, subst, arith, append_assoc, append-nil}
use Rattle.std.proofs.lemmas.List.{length-map}
use Rattle.po_base.specs.declared.token.Tokens.{Tokens}
use Rattle.po_tree.specs.declared.expression.Specifier.{Specifier}
use Rattle.po_tree.specs.declared.expression.Declarator.{Declarator}
use Rattle.po_tree.specs.declared.statement.Stmt.{Stmt}
use Rattle.po_tree.specs.declared.function.FunTree.{FunTree}
use Rattle.po_tree.specs.Signs.{Sign, sign_of, brace, brace_end}
use Rattle.po_tree.specs.Printing.{flat_specifier, flat_declarator, flat_stmt, flat_fun}
use Rattle.po_tree.specs.InForce.{InForce, Standing, Closes}
use Rattle.po_tree.specs.Heights.{fun_height, fun_depth}
use Rattle.po_tree.specs.Declarations.{without}
use Rattle.po_tree.specs.Statements.{AreItems, IsFunction, function, IsDefinition}
use Rattle.po_exp_parts.specs.Places.{signs_between}
use Rattle.po_fun_laws.proofs.OneStatement.{one_items}
use Rattle.po_fun_parts.specs.Standing.{ItemsStand}
use Rattle.po_stmt_laws.specs.Reading.{BodyStands}
use Rattle.po_fun_heads.specs.Heads.{IsHead, head, HeadStands, Enters}
use Rattle.po_fun_heads.specs.Marks.{spot, spots_between, marked, Marking}
use Rattle.po_fun_heads.proofs.OneHead.{one_head}
use Rattle.po_fun_read.specs.Standing.{FunctionStands, DefinitionStands}

-- what was read

pub function_stands : {before mid : InForce} {signs left us : List Sign} {specs : List Specifier} {d : Declarator} {body : List Stmt} (e : Enters before signs specs d left mid) →
    BodyStands e.inside left body us → us ≡ [] → FunctionStands before.typedefs signs specs d body
function_stands {left = left} {us} {specs} {d} {body} e b none =
    let low = e.stands.nested in
    let few = b.items.nested in
    record {
      inside = e.inside;
      formed = e.stands.formed;
      items = b.items.formed;
      nested = omega (arith, low, few);
      deep = b.deep;
      printed = e.stands.printed ∙ ap (λ v. flat_map flat_specifier specs ++ (flat_declarator d ++ (brace ∷ v))) (b.items.printed ∙ ap (λ v. flat_map flat_stmt body ++ (brace_end ∷ v)) none);
    }

-- the head, and the body behind it

head_stands : {types : List (List ℕ)} {signs : List Sign} {specs : List Specifier} {d : Declarator} {body : List Stmt} (f : FunctionStands types signs specs d body) →
    HeadStands types signs specs d f.inside (flat_map flat_stmt body ++ brace_end ∷ [])
head_stands f = let low = f.nested in record { formed = f.formed; nested = omega (arith, low); printed = f.printed }

body_stands : {types inside : List (List ℕ)} {signs left : List Sign} {specs : List Specifier} {d : Declarator} {body : List Stmt} (f : FunctionStands types signs specs d body) →
    inside ≡ f.inside → left ≡ flat_map flat_stmt body ++ brace_end ∷ [] → BodyStands inside left body []
body_stands {body = body} f same q =
    let low = f.nested in
    record {
      items = record { formed = subst (λ v. AreItems v body) (sym same) f.items; nested = omega (arith, low); printed = q };
      deep = f.deep;
    }

pub no_head : {types : List (List ℕ)} {signs : List Sign} → ((specs : List Specifier) (d : Declarator) (inside : List (List ℕ)) (left : List Sign) → HeadStands types signs specs d inside left → ⊥) →
    (specs : List Specifier) (d : Declarator) (body : List Stmt) → FunctionStands types signs specs d body → ⊥
no_head none specs d body f = none specs d f.inside (flat_map flat_stmt body ++ brace_end ∷ []) (head_stands f)

-- whatever definition stands there, its body is one behind the head that was read
read_behind : {before mid : InForce} {signs left : List Sign} {specs others : List Specifier} {d e : Declarator} {body : List Stmt} (h : Enters before signs specs d left mid) →
    FunctionStands before.typedefs signs others e body → BodyStands h.inside left body []
read_behind {before} {signs = signs} {left = left} {specs = specs} {others = others} {d = d} {e = e} {body = body} h f =
    let same = one_head before.typedefs h.inside f.inside signs left (flat_map flat_stmt body ++ brace_end ∷ []) specs others d e h.stands (head_stands f) in
    body_stands f same.2 same.3

pub no_body : {before mid : InForce} {signs left : List Sign} {specs : List Specifier} {d : Declarator} (h : Enters before signs specs d left mid) →
    ((xs : List Stmt) (us : List Sign) → BodyStands h.inside left xs us → ⊥) → (others : List Specifier) (e : Declarator) (body : List Stmt) → FunctionStands before.typedefs signs others e body → ⊥
no_body h none others e body f = none body [] (read_behind h f)

pub more_left : {before mid : InForce} {signs left us : List Sign} {specs : List Specifier} {d : Declarator} {body : List Stmt} (h : Enters before signs specs d left mid) →
    BodyStands h.inside left body us → (us ≡ [] → ⊥) → (others : List Specifier) (e : Declarator) (other : List Stmt) → FunctionStands before.typedefs signs others e other → ⊥
more_left {us = us} h b some others e other f =
    let k = read_behind h f in
    some (one_items b.items.formed k.items.formed b.items.nested k.items.nested us [] (sym b.items.printed ∙ k.items.printed)).1

-- the scope of the body is closed

abbrev in_force : Standing → List Standing → InForce
in_force s outer = record { typedefs = s.typedefs; tags = s.tags; outer = outer }

same_standing : {s t : Standing} {xs ys : List Standing} → s ∷ xs ≡ t ∷ ys → in_force s xs ≡ in_force t ys
same_standing {s} {t} {xs} {ys} q =
    let first : s ≡ t = cc in
    let rest : xs ≡ ys = ap (drop 1) q in
    ap (λ v. in_force v xs) first ∙ ap (in_force t) rest

pub closed : {before mid behind : InForce} {signs left : List Sign} {specs : List Specifier} {d : Declarator} → Enters before signs specs d left mid → Closes mid behind → behind ≡ before
closed e c = same_standing (sym c ∙ e.scope)

pub scope_open : {before mid : InForce} {signs left : List Sign} {specs : List Specifier} {d : Declarator} → Enters before signs specs d left mid → mid.outer ≡ [] → ⊥
scope_open e q = let bad = sym e.scope ∙ q in absurd cc

-- marks make it a definition

pub definition_stands : {types : List (List ℕ)} {tokens : Tokens} {from to : ℕ} {specs : List Specifier} {d : Declarator} {body : List Stmt} {marks : List (ℕ × ℕ)} {names : List (List ℕ)} →
    FunctionStands types (signs_between tokens.list from to) specs d body → Marking (spots_between tokens from to) marks names [] →
    DefinitionStands types tokens from to (record { specs = specs; declarator = d; body = body; marks = marks; names = names })
definition_stands {types} {tokens} {from} {to} {specs} {d} {body} {marks} {names} f m =
    let placed : spots_between tokens from to ≡ map (marked names) marks = m.placed ∙ append-nil (map (marked names) marks) in
    let each : length marks ≡ length (flat_fun (record { specs = specs; declarator = d; body = body; marks = marks; names = names })) =
    sym (length-map marks (marked names)) ∙ ap length (sym placed) ∙ length-map (drop from (take to tokens.list)) (spot tokens.names) ∙ sym (length-map (drop from (take to tokens.list)) sign_of) ∙ ap length f.printed in
    record {
      defined = record { formed = function_of f.formed f.items; nested = f.nested; deep = f.deep; marked = record { each = each; order = m.order; differ = m.differ } };
      printed = f.printed;
      placed = placed;
    }
  where
    function_of : {inside : List (List ℕ)} {specs : List Specifier} {d : Declarator} → IsHead types specs d inside → AreItems inside body →
        IsFunction types (record { specs = specs; declarator = d; body = body; marks = marks; names = names })
    function_of (head own inner seen spec specs name stars params more w is) items = function own inner seen spec specs name stars params more body marks names w is items

made : {types : List (List ℕ)} {signs : List Sign} {g : FunTree} → IsFunction types g → fun_height g ≤ 256 → fun_depth g ≤ 256 → signs ≡ flat_fun g → FunctionStands types signs g.specs g.declarator g.body
made (function own inner seen spec specs name stars params more body marks names w is items) low deep printed = record {
  inside = without name inner;
  formed = head own inner seen spec specs name stars params more w is;
  items = items;
  nested = low;
  deep = deep;
  printed = printed;
}

pub definition_parts : {types : List (List ℕ)} {tokens : Tokens} {from to : ℕ} (g : FunTree) → DefinitionStands types tokens from to g →
    FunctionStands types (signs_between tokens.list from to) g.specs g.declarator g.body
definition_parts {types} {tokens} {from} {to} g w = made w.defined.formed w.defined.nested w.defined.deep w.printed
