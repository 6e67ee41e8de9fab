-- The nodes of a lowered function: operations and calls on what is there before them, and a return.
use Rattle.std.proofs.Common.{◌&&◌, ◌≡◌, ℕ, zero, suc, ◌+◌, ◌<◌, ◌≤◌, ◌^◌, List, [], ◌∷◌, ◌++◌, map, replicate, length, true, refl, sym, ◌∙◌, ap, subst, arith, ◌⊎◌, inl, inr, length-append}
use Rattle.std.specs.Prelude.{Some, slice_get}
use Rattle.std.proofs.lemmas.Bool.{ltb-true}
use Rattle.std.proofs.lemmas.List.{length-map, length-replicate}
use Rattle.po_base.specs.declared.operators.Op.{Op}
use Rattle.po_base.specs.declared.operand.Opnd.{Opnd}
use Rattle.po_ir.specs.declared.instr.Callee.TheVariants.{Fun}
use Rattle.po_ir.specs.declared.instr.Instr.TheVariants.{Bin, Call, Return}
use Rattle.po_ir.specs.declared.graph.Node.{Node}
use Rattle.po_ir.specs.declared.project.Function.{Function}
use Rattle.po_straight.specs.declared.expression.Expression.{Expression}
use Rattle.po_straight.specs.declared.definition.Definition.{Definition}
use Rattle.po_app.specs.Lowering.{Lowers, parameter, constant, paren, binary, call, LowersAll, none, more, node_at, int, IsGraph, parameter_register, temporary_register}
use Rattle.po_app.proofs.Soundness.Numbers.{constant_int}
use Rattle.po_app.proofs.Soundness.Places.{IsBefore, AreBefore, before_more, all_before_more}
use Rattle.po_app.proofs.Soundness.Served.{is_arithmetic, is_count, is_served, all_served, served-Parameter, served-Constant, served-Paren, served-Call, served-Binary, both, count_is}

-- an operator on operands that are there before, with the next register for its result
pub record IsOperation (params k : ℕ) (n : Node) : Type 0 where
  pub op : Op
  pub arithmetic : is_arithmetic op ≡ true
  pub left : Opnd
  pub right : Opnd
  pub is : n.instr ≡ Bin (record { 0 = params + k }) op int left right
  pub left_before : IsBefore (params + k) left
  pub right_before : IsBefore (params + k) right

-- a call on arguments that are there before, one for each parameter of the called function, with the next register for what
-- it returns
pub record IsCall (counts : List ℕ) (params k : ℕ) (n : Node) : Type 0 where
  pub callee : ℕ
  pub args : List Opnd
  pub is : n.instr ≡ Call (Some (record { 0 = params + k })) (Fun (record { 0 = callee })) args []
  pub before : AreBefore (params + k) args
  pub counted : slice_get counts callee ≡ Some (length args)

-- the return of what is there before
pub record IsReturn (params k : ℕ) (n : Node) : Type 0 where
  pub value : Opnd
  pub is : n.instr ≡ Return (Some value)
  pub before : IsBefore (params + k) value

abbrev pub IsWork : List ℕ → ℕ → ℕ → Node → Type 0
IsWork counts params k n = IsOperation params k n ⊎ IsCall counts params k n

-- the nodes from k on
abbrev pub AreWork : List ℕ → ℕ → ℕ → List Node → Type 0
AreWork counts params k [] = Unit {0}
AreWork counts params k (n ∷ ns) = IsWork counts params k n × AreWork counts params (k + 1) ns

work_append : (counts : List ℕ) (params k : ℕ) (ms ns : List Node) → AreWork counts params k ms → AreWork counts params (k + length ms) ns → AreWork counts params k (ms ++ ns)
work_append counts params k [] ns h j = let none : k + 0 ≡ k = omega arith in subst (λ i. AreWork counts params i ns) none j
work_append counts params k (m ∷ ms) ns h j =
    let next : k + suc (length ms) ≡ (k + 1) + length ms = omega arith in
    (h.0, work_append counts params (k + 1) ms ns h.1 (subst (λ i. AreWork counts params i ns) next j))

work_at : (counts : List ℕ) (params k : ℕ) (ns : List Node) (i : ℕ) (n : Node) → AreWork counts params k ns → slice_get ns i ≡ Some n → IsWork counts params (k + i) n
work_at counts params k [] i n h q = absurd (cc)
work_at counts params k (m ∷ ms) zero n h q =
    let same : m ≡ n = cc in
    let none : k ≡ k + 0 = omega arith in
    subst (λ j. IsWork counts params j n) none (subst (IsWork counts params k) same h.0)
work_at counts params k (m ∷ ms) (suc i) n h q =
    let next : (k + 1) + i ≡ k + suc i = omega arith in
    subst (λ j. IsWork counts params j n) next (work_at counts params (k + 1) ms i n h.1 q)

-- the nodes of an expression, and its value, which is there after them
abbrev pub Computed : List ℕ → ℕ → ℕ → List Node → Opnd → Type 0
Computed counts params taken nodes v = AreWork counts params taken nodes × IsBefore (params + (taken + length nodes)) v

-- the same of expressions one after the other, which are so many
abbrev pub AllComputed : List ℕ → ℕ → ℕ → ℕ → List Node → List Opnd → Type 0
AllComputed counts params taken n nodes vs = AreWork counts params taken nodes × AreBefore (params + (taken + length nodes)) vs × (length vs ≡ n)

mutual
  work : {file : List ℕ} {params : ℕ} {x : Expression} {taken : ℕ} {nodes : List Node} {v : Opnd} → (counts : List ℕ) → Lowers file params x taken nodes v → is_served params counts x ≡ true → Computed counts params taken nodes v
  work {params = params} counts (parameter n taken) s =
      let below = ltb-true n params (sym (served-Parameter params counts n) ∙ s) in (tt, omega arith)
  work {params = params} counts (constant value taken) s =
      (tt, constant_int value (ltb-true value (2 ^ 31) (sym (served-Constant params counts value) ∙ s)))
  work {params = params} counts (paren y taken ns w l) s = work counts l (sym (served-Paren params counts y) ∙ s)
  work {file = file} {params = params} counts (binary op line taken y z ms ns left right l r) s =
      let all = both (is_arithmetic op) (is_served params counts y && is_served params counts z) (sym (served-Binary params counts op line y z) ∙ s) in
      let parts = both (is_served params counts y) (is_served params counts z) all.1 in
      let first = work counts l parts.0 in
      let second = work counts r parts.1 in
      let to = params + (taken + (length ms + length ns)) in
      let last = node_at file line (Bin (record { 0 = to }) op int left right) in
      let here : IsOperation params (taken + (length ms + length ns)) last = record {
        op = op;
        arithmetic = all.0;
        left = left;
        right = right;
        is = refl;
        left_before = before_more (params + (taken + length ms)) to left (omega arith) first.1;
        right_before = before_more (params + ((taken + length ms) + length ns)) to right (omega arith) second.1;
      } in
      let number : taken + (length ms + length ns) ≡ (taken + length ms) + length ns = omega arith in
      let end = work_append counts params (taken + length ms) ns (last ∷ []) second.0 (subst (λ k. IsWork counts params k last) number (inl here), tt) in
      let long = length-append ms (ns ++ last ∷ []) in
      let longer = length-append ns (last ∷ []) in
      (work_append counts params taken ms (ns ++ last ∷ []) first.0 end, omega (arith, long, longer))
  work {file = file} {params = params} counts (call f line taken arguments ns vs l) s =
      let parts = both (is_count (slice_get counts f) (length (map (is_served params counts) arguments))) (all_served params counts arguments) (sym (served-Call params counts f line arguments) ∙ s) in
      let all = all_work counts l parts.1 in
      let to = params + (taken + length ns) in
      let last = node_at file line (Call (Some (record { 0 = to })) (Fun (record { 0 = f })) vs []) in
      let many : length (map (is_served params counts) arguments) ≡ length vs = length-map arguments (is_served params counts) ∙ sym all.2 in
      let here : IsCall counts params (taken + length ns) last = record {
        callee = f;
        args = vs;
        is = refl;
        before = all.1;
        counted = count_is (slice_get counts f) _ parts.0 ∙ ap Some many;
      } in
      let long = length-append ns (last ∷ []) in
      (work_append counts params taken ns (last ∷ []) all.0 (inr here, tt), omega (arith, long))

  all_work : {file : List ℕ} {params : ℕ} {xs : List Expression} {taken : ℕ} {nodes : List Node} {vs : List Opnd} → (counts : List ℕ) → LowersAll file params xs taken nodes vs → all_served params counts xs ≡ true →
      AllComputed counts params taken (length xs) nodes vs
  all_work counts (none taken) s = (tt, tt, refl)
  all_work {params = params} counts (more taken x xs ms ns v vs l r) s =
      let parts = both (is_served params counts x) (all_served params counts xs) s in
      let first = work counts l parts.0 in
      let others = all_work counts r parts.1 in
      let long = length-append ms ns in
      let many = others.2 in (
        work_append counts params taken ms ns first.0 others.0,
        (
          before_more (params + (taken + length ms)) (params + (taken + length (ms ++ ns))) v (omega (arith, long)) first.1,
          all_before_more (params + ((taken + length ms) + length ns)) (params + (taken + length (ms ++ ns))) vs (omega (arith, long)) others.1,
        ),
        omega (arith, many),
      )

-- the node isn't the last, and it has its register
abbrev pub HasNext : Function → ℕ → Type 0
HasNext f k = (f.graph.params + k < length f.graph.regs) × (k + 1 < length f.graph.nodes)

-- what a node of a function does
abbrev pub IsAtNode : List ℕ → Function → ℕ → Node → Type 0
IsAtNode counts f k n = (IsWork counts f.graph.params k n × HasNext f k) ⊎ IsReturn f.graph.params k n

last_or_before : (ns : List Node) (last n : Node) (i : ℕ) → slice_get (ns ++ last ∷ []) i ≡ Some n → ((slice_get ns i ≡ Some n) × (i < length ns)) ⊎ ((last ≡ n) × (i ≡ length ns))
last_or_before [] last n zero q = inr (cc, refl)
last_or_before [] last n (suc i) q = absurd (cc)
last_or_before (m ∷ ms) last n zero q = inl (q, omega arith)
last_or_before (m ∷ ms) last n (suc i) q = elim (last_or_before ms last n i q) [ inl h ↦ inl (h.0, (let below = h.1 in omega arith)) | inr h ↦ inr (h.0, ap suc h.1) ]

-- a register for each parameter and for each node
count_registers : (file : List ℕ) (d : Definition) (f : Function) (g : IsGraph file d f.graph) → length f.graph.regs ≡ length d.parameters + length g.nodes
count_registers file d f g =
    let all = ap length g.all_regs in
    let parts = length-append (map parameter_register d.parameters) (replicate (length g.nodes) temporary_register) in
    let first = length-map d.parameters parameter_register in
    let others = length-replicate (length g.nodes) temporary_register in
    omega (arith, all, parts, first, others)

-- a node for each operator, and one for the return
count_nodes : (file : List ℕ) (d : Definition) (f : Function) (g : IsGraph file d f.graph) → length f.graph.nodes ≡ length g.nodes + 1
count_nodes file d f g =
    let all = ap length g.all_nodes in
    let parts = length-append g.nodes (node_at file d.line (Return (Some g.value)) ∷ []) in
    omega (arith, all, parts)

pub one_node : (file : List ℕ) (d : Definition) (f : Function) → IsGraph file d f.graph → 0 < length f.graph.nodes
one_node file d f g = omega (arith, count_nodes file d f g)

pub enough_registers : (file : List ℕ) (d : Definition) (f : Function) → IsGraph file d f.graph → f.graph.params ≤ length f.graph.regs
enough_registers file d f g = omega (arith, count_registers file d f g, g.params)

-- each node of a lowered function is an operation, a call or a return
pub at_node : (file : List ℕ) (d : Definition) (f : Function) (counts : List ℕ) (k : ℕ) (n : Node) → IsGraph file d f.graph → is_served (length d.parameters) counts d.value ≡ true → slice_get f.graph.nodes k ≡ Some n → IsAtNode counts f k n
at_node file d f counts k n g s q =
    let params = length d.parameters in
    let all = work counts g.lowered s in
    let last = node_at file d.line (Return (Some g.value)) in
    let regs = count_registers file d f g in
    elim (last_or_before g.nodes last n k (subst (λ ns. slice_get ns k ≡ Some n) g.all_nodes q)) [
      | inl h ↦
          let below = h.1 in
          let number : 0 + k ≡ k = omega arith in
          inl (subst (λ i. IsWork counts i k n) (sym g.params) (subst (λ i. IsWork counts params i n) number (work_at counts params 0 g.nodes k n all.0 h.0)), (omega (arith, regs, g.params), omega (arith, count_nodes file d f g)))
      | inr h ↦
          let place = h.1 in
          let end : params + (0 + length g.nodes) ≡ f.graph.params + k = omega (arith, g.params, place) in
          inr (record { value = g.value; is = ap (λ (m : Node). m.instr) (sym h.0); before = subst (λ i. IsBefore i g.value) end all.1 })
    ]
