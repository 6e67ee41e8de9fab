-- What lowering appends for each kind of expression.
use Rattle.std.proofs.Common.{◌≡◌, ℕ, ◌+◌, ◌<◌, ◌≤◌, ◌^◌, List, [], ◌∷◌, ◌++◌, length, arith, refl, ap, sym, subst, map, take, get_or, Some, ◌∙◌, inl, append_assoc, length-append}
use Rattle.std.specs.Prelude.{pos, sum_by, All}
use Rattle.std.specs.List.{AllZip}
use Rattle.std.proofs.lemmas.List.{append-nil, take_more}
use Rattle.std.proofs.lemmas.List.Sums.{sum_by_more_le, sum_by-append}
use Rattle.std.proofs.lemmas.List.Elements.{All-nil, All-cons, All-append}
use Rattle.std.proofs.lemmas.Int.{ints}
use Rattle.po_base.specs.declared.numbers.FileNo.{FileNo}
use Rattle.po_base.specs.declared.operators.Op.{Op}
use Rattle.po_base.specs.declared.operand.Opnd.{Opnd}
use Rattle.po_base.specs.declared.operand.Opnd.TheVariants.{Num}
use Rattle.po_ir.specs.declared.instr.Instr.TheVariants.{Bin, Call}
use Rattle.po_ir.specs.declared.instr.Callee.TheVariants.{Fun}
use Rattle.po_ir.specs.declared.graph.Node.{Node}
use Rattle.po_ir.specs.declared.project.Function.{Function}
use Rattle.po_straight.specs.declared.definition.Definition.{Definition}
use Rattle.po_straight.specs.declared.expression.Expression.{Expression}
use Rattle.po_straight.specs.declared.expression.Expression.TheVariants as e
use Rattle.po_straight.specs.Expressions.{height, greatest}
use Rattle.po_straight.specs.Definitions.{operations}
use Rattle.po_straight.specs.Heights.{height-Paren, height-Call, height-Binary, height_at}
use Rattle.po_straight.specs.Operations.{operations-Parameter, operations-Constant, operations-Paren, operations-Call, operations-Binary, sum_mapped}
use Rattle.po_app.specs.Lowering.{Lowers, parameter, constant, paren, binary, call, LowersAll, none, more, node_at, register, int, IsFunction}
use Rattle.po_app.specs.Lowered.{Appends, AppendsAll}
use Rattle.po_app.specs.Ranges.{IsSmallInstr, IsSmallOperand}

-- parentheses are higher than what they enclose, and have its operations
pub within : (x inner part : Expression) → x ≡ e.Paren inner → part ≡ inner → (height part < height x) × (operations part ≡ operations x)
within x inner part q r =
    (omega (arith, ap height q, ap height r, height-Paren inner), omega (arith, ap operations q, ap operations r, operations-Paren inner))

-- an operator's expression is higher than its operands, and has their operations and its own
pub parts : (x left right a b : Expression) (o : Op) (line : ℕ) → x ≡ e.Binary o line left right → a ≡ left → b ≡ right →
    (height a < height x) × (height b < height x) × (operations a + operations b + 1 ≡ operations x)
parts x left right a b o line q r s =
    let h = height-Binary o line left right in
    let g = operations-Binary o line left right in
    (omega (arith, ap height q, ap height r, h), omega (arith, ap height q, ap height s, h), omega (arith, ap operations q, ap operations r, ap operations s, g))

-- a call is higher than its arguments, and has their operations and its own
pub called : (x : Expression) (f line : ℕ) (xs items : List Expression) → x ≡ e.Call f line xs → items ≡ xs →
    (greatest (map height items) < height x) × (sum_by operations items + 1 ≡ operations x)
called x f line xs items q r =
    let h = height-Call f line xs in
    let g = operations-Call f line xs in
    (omega (arith, ap height q, ap (λ l. greatest (map height l)) r, h), omega (arith, ap operations q, ap (λ l. sum_by operations l) r, sum_mapped xs, g))

-- an argument isn't higher than the highest, and is one of those that follow
pub argument : (items : List Expression) (i : ℕ) (d : Expression) → d ≡ get_or items i d → i < length items →
    (height d ≤ greatest (map height items)) × (sum_by operations (take i items) + operations d ≤ sum_by operations items)
argument items i d is h =
    (omega (arith, height_at items i d h, ap height is), omega (arith, sum_by_more_le operations items i d h, ap operations is))

pub appends-Parameter : (file : List ℕ) (params n : ℕ) (x : Expression) (old : List Node) → x ≡ e.Parameter n → Appends file params x old old (register n)
appends-Parameter file params n x old q = subst (λ z. Appends file params z old old (register n)) (sym q) (record {
  more = [];
  appended = sym (append-nil old);
  lowered = parameter n (length old);
  counted = sym (operations-Parameter n);
  small = All-nil _;
  small_value = tt;
})

pub appends-Constant : (file : List ℕ) (params value : ℕ) (x : Expression) (old : List Node) → value < 2 ^ 32 → x ≡ e.Constant value → Appends file params x old old (Num (pos value))
appends-Constant file params value x old below q = subst (λ z. Appends file params z old old (Num (pos value))) (sym q) (record {
  more = [];
  appended = sym (append-nil old);
  lowered = constant value (length old);
  counted = sym (operations-Constant value);
  small = All-nil _;
  small_value = (omega (arith, ints), omega (arith, ints));
})

pub appends-Paren : (file : List ℕ) (params : ℕ) (x inner part : Expression) (old new : List Node) (v : Opnd) → x ≡ e.Paren inner → part ≡ inner →
    Appends file params part old new v → Appends file params x old new v
appends-Paren file params x inner part old new v q r a =
    let b : Appends file params inner old new v = subst (λ z. Appends file params z old new v) r a in
    subst (λ z. Appends file params z old new v) (sym q) (record {
      more = b.more;
      appended = b.appended;
      lowered = paren inner (length old) b.more v b.lowered;
      counted = b.counted ∙ sym (operations-Paren inner);
      small = b.small;
      small_value = b.small_value;
    })

-- the nodes of both operands, and the operator's
operator_appends : (file : List ℕ) (params line : ℕ) (op : Op) (left right : Expression) (old mid new : List Node) (v w : Opnd) →
    Appends file params left old mid v → Appends file params right mid new w →
    Appends file params (e.Binary op line left right) old (new ++ node_at file line (Bin (record { 0 = params + length new }) op int v w) ∷ []) (register (params + length new))
operator_appends file params line op left right old mid new v w a b =
    let ms = a.more in
    let ns = b.more in
    let mid_length : length mid ≡ length old + length ms = ap length a.appended ∙ length-append old ms in
    let new_length : length new ≡ length mid + length ns = ap length b.appended ∙ length-append mid ns in
    let number : params + (length old + (length ms + length ns)) ≡ params + length new = omega (arith, mid_length, new_length) in
    let made = subst (λ k. Lowers file params right k ns w) mid_length b.lowered in
    let end : ℕ → List Node = λ k. node_at file line (Bin (record { 0 = k }) op int v w) ∷ [] in
    record {
      more = ms ++ (ns ++ end (params + length new));
      appended = ap (λ l. l ++ end (params + length new)) (b.appended ∙ ap (λ l. l ++ ns) a.appended) ∙ simp append_assoc refl;
      lowered = subst (λ k. Lowers file params (e.Binary op line left right) (length old) (ms ++ (ns ++ end k)) (register k)) number (binary op line (length old) left right ms ns v w a.lowered made);
      counted =
          let appended = length-append ms (ns ++ end (params + length new)) in
          let appended_2 = length-append ns (end (params + length new)) in
          let both = operations-Binary op line left right in
          let one : length (end (params + length new)) ≡ 1 = refl in
          omega (arith, appended, appended_2, both, one, a.counted, b.counted);
      small =
          let last = node_at file line (Bin (record { 0 = params + length new }) op int v w) in
          let here : IsSmallInstr last.instr = (inl refl, a.small_value, b.small_value) in
          All-append (λ n. IsSmallInstr n.instr) ms _ a.small (All-append (λ n. IsSmallInstr n.instr) ns _ b.small (All-cons (λ n. IsSmallInstr n.instr) last [] here (All-nil _)));
      small_value = tt;
    }

pub appends-Binary : (file : List ℕ) (params line : ℕ) (op : Op) (x left right first second : Expression) (old mid new last : List Node) (v w : Opnd) (n : Node) (k : ℕ) →
    x ≡ e.Binary op line left right → first ≡ left → second ≡ right → Appends file params first old mid v → Appends file params second mid new w →
    k ≡ length new → n ≡ node_at file line (Bin (record { 0 = params + k }) op int v w) → last ≡ new ++ n ∷ [] →
    Appends file params x old last (register (params + k))
appends-Binary file params line op x left right first second old mid new last v w n k q r s a b at node end =
    let a' : Appends file params left old mid v = subst (λ z. Appends file params z old mid v) r a in
    let b' : Appends file params right mid new w = subst (λ z. Appends file params z mid new w) s b in
    let made = operator_appends file params line op left right old mid new v w a' b' in
    let numbered : Appends file params (e.Binary op line left right) old (new ++ node_at file line (Bin (record { 0 = params + k }) op int v w) ∷ []) (register (params + k)) =
    subst (λ i. Appends file params (e.Binary op line left right) old (new ++ node_at file line (Bin (record { 0 = params + i }) op int v w) ∷ []) (register (params + i))) (sym at) made in
    let ended : Appends file params (e.Binary op line left right) old last (register (params + k)) =
    subst (λ l. Appends file params (e.Binary op line left right) old l (register (params + k))) (sym (end ∙ ap (λ m. new ++ m ∷ []) node)) numbered in
    subst (λ z. Appends file params z old last (register (params + k))) (sym q) ended

pub appends-length : (file : List ℕ) (params : ℕ) (x : Expression) (old new : List Node) (v : Opnd) → Appends file params x old new v → length new ≡ length old + operations x
appends-length file params x old new v a =
    let whole = ap length a.appended ∙ length-append old a.more in
    omega (arith, whole, a.counted)

pub appends_all-length : (file : List ℕ) (params : ℕ) (xs : List Expression) (old new : List Node) (vs : List Opnd) → AppendsAll file params xs old new vs → length new ≡ length old + sum_by operations xs
appends_all-length file params xs old new vs a =
    let whole = ap length a.appended ∙ length-append old a.more in
    omega (arith, whole, a.counted)

pub appends_none : (file : List ℕ) (params : ℕ) (old : List Node) → AppendsAll file params [] old old []
appends_none file params old = record {
  more = [];
  appended = sym (append-nil old);
  lowered = none (length old);
  counted = refl;
  small = All-nil _;
  small_values = All-nil _;
}

-- one more expression at the end
lowers_more : (file : List ℕ) (params taken : ℕ) (xs : List Expression) (ms ns : List Node) (vs : List Opnd) (y : Expression) (w : Opnd) →
    LowersAll file params xs taken ms vs → Lowers file params y (taken + length ms) ns w → LowersAll file params (xs ++ y ∷ []) taken (ms ++ ns) (vs ++ w ∷ [])
lowers_more file params taken xs ms ns vs y w (none k) l =
    let e : k + 0 ≡ k = omega arith in
    subst (λ l. LowersAll file params (y ∷ []) k l (w ∷ [])) (append-nil ns) (more k y [] ns [] w [] (subst (λ t. Lowers file params y t ns w) e l) (none (k + length ns)))
lowers_more file params taken xs ms ns vs y w (more k x rest first others v us h t) l =
    let e : k + length (first ++ others) ≡ (k + length first) + length others = omega (arith, length-append first others) in
    let made = lowers_more file params (k + length first) rest others ns us y w t (subst (λ t. Lowers file params y t ns w) e l) in
    subst (λ l. LowersAll file params (x ∷ (rest ++ y ∷ [])) k l (v ∷ (us ++ w ∷ []))) (sym (append_assoc first others ns)) (more k x (rest ++ y ∷ []) first (others ++ ns) v (us ++ w ∷ []) h made)

appends_then : (file : List ℕ) (params : ℕ) (xs : List Expression) (y : Expression) (old mid new : List Node) (vs : List Opnd) (w : Opnd) →
    AppendsAll file params xs old mid vs → Appends file params y mid new w → AppendsAll file params (xs ++ y ∷ []) old new (vs ++ w ∷ [])
appends_then file params xs y old mid new vs w a b =
    let mid_length : length mid ≡ length old + length a.more = ap length a.appended ∙ length-append old a.more in
    record {
      more = a.more ++ b.more;
      appended = b.appended ∙ ap (λ l. l ++ b.more) a.appended ∙ append_assoc old a.more b.more;
      lowered = lowers_more file params (length old) xs a.more b.more vs y w a.lowered (subst (λ k. Lowers file params y k b.more w) mid_length b.lowered);
      counted =
          let one : sum_by operations (y ∷ []) ≡ operations y = omega arith in
          omega (arith, length-append a.more b.more, sum_by-append operations xs (y ∷ []), a.counted, b.counted, one);
      small = All-append (λ n. IsSmallInstr n.instr) a.more b.more a.small b.small;
      small_values = All-append IsSmallOperand vs (w ∷ []) a.small_values (All-cons IsSmallOperand w [] b.small_value (All-nil _));
    }

-- one more of a call's arguments
pub appends_more : (file : List ℕ) (params : ℕ) (items : List Expression) (i : ℕ) (y z : Expression) (old mid new : List Node) (vs us : List Opnd) (w : Opnd) → i < length items → z ≡ get_or items i z → y ≡ z →
    AppendsAll file params (take i items) old mid vs → Appends file params y mid new w → us ≡ vs ++ w ∷ [] → AppendsAll file params (take (i + 1) items) old new us
appends_more file params items i y z old mid new vs us w h is same a b pushed =
    let one : take (i + 1) items ≡ take i items ++ z ∷ [] = take_more items i z h ∙ ap (λ x. take i items ++ x ∷ []) (sym is) in
    let made = appends_then file params (take i items) z old mid new vs w a (subst (λ x. Appends file params x mid new w) same b) in
    subst (λ l. AppendsAll file params (take (i + 1) items) old new l) (sym pushed) (subst (λ l. AppendsAll file params l old new (vs ++ w ∷ [])) (sym one) made)

-- the nodes of the arguments, and the call's
call_appends : (file : List ℕ) (params line f : ℕ) (xs : List Expression) (old new : List Node) (vs : List Opnd) →
    length vs < 2 ^ 32 → AppendsAll file params xs old new vs →
    Appends file params (e.Call f line xs) old (new ++ node_at file line (Call (Some (record { 0 = params + length new })) (Fun (record { 0 = f })) vs []) ∷ []) (register (params + length new))
call_appends file params line f xs old new vs few a =
    let ms = a.more in
    let new_length : length new ≡ length old + length ms = ap length a.appended ∙ length-append old ms in
    let number : params + (length old + length ms) ≡ params + length new = omega (arith, new_length) in
    let end : ℕ → List Node = λ k. node_at file line (Call (Some (record { 0 = k })) (Fun (record { 0 = f })) vs []) ∷ [] in
    record {
      more = ms ++ end (params + length new);
      appended = ap (λ l. l ++ end (params + length new)) a.appended ∙ append_assoc old ms _;
      lowered = subst (λ k. Lowers file params (e.Call f line xs) (length old) (ms ++ end k) (register k)) number (call f line (length old) xs ms vs a.lowered);
      counted =
          let appended = length-append ms (end (params + length new)) in
          let own = operations-Call f line xs in
          let one : length (end (params + length new)) ≡ 1 = refl in
          omega (arith, appended, own, one, a.counted, sum_mapped xs);
      small =
          let last = node_at file line (Call (Some (record { 0 = params + length new })) (Fun (record { 0 = f })) vs []) in
          let here : IsSmallInstr last.instr = (few, a.small_values) in
          All-append (λ n. IsSmallInstr n.instr) ms _ a.small (All-cons (λ n. IsSmallInstr n.instr) last [] here (All-nil _));
      small_value = tt;
    }

pub appends-Call : (file : List ℕ) (params line f : ℕ) (x : Expression) (xs items : List Expression) (old new last : List Node) (vs : List Opnd) (n : Node) (k : ℕ) →
    x ≡ e.Call f line xs → items ≡ xs → length vs < 2 ^ 32 → AppendsAll file params items old new vs →
    k ≡ length new → n ≡ node_at file line (Call (Some (record { 0 = params + k })) (Fun (record { 0 = f })) vs []) → last ≡ new ++ n ∷ [] →
    Appends file params x old last (register (params + k))
appends-Call file params line f x xs items old new last vs n k q r few a at node end =
    let made = call_appends file params line f items old new vs few a in
    let call_at : ℕ → Node = λ i. node_at file line (Call (Some (record { 0 = params + i })) (Fun (record { 0 = f })) vs []) in
    let numbered : Appends file params (e.Call f line items) old (new ++ call_at k ∷ []) (register (params + k)) =
    subst (λ i. Appends file params (e.Call f line items) old (new ++ call_at i ∷ []) (register (params + i))) (sym at) made in
    let ended : Appends file params (e.Call f line items) old last (register (params + k)) =
    subst (λ l. Appends file params (e.Call f line items) old l (register (params + k))) (sym (end ∙ ap (λ m. new ++ m ∷ []) node)) numbered in
    subst (λ z. Appends file params z old last (register (params + k))) (sym (q ∙ ap (λ l. e.Call f line l) (sym r))) ended

-- the functions stand in the first file
pub in_first_file : (file : List ℕ) (ds : List Definition) (fs : List Function) → AllZip (IsFunction file) ds fs → All (λ (f : Function). f.file.0 < 1) fs
in_first_file file [] [] all = All-nil _
in_first_file file [] (f ∷ fs) all = absurd all
in_first_file file (d ∷ ds) [] all = absurd all
in_first_file file (d ∷ ds) (f ∷ fs) all =
    let first : f.file.0 ≡ 0 = ap (λ (n : FileNo). n.0) all.0.first_file in
    All-cons (λ (g : Function). g.file.0 < 1) f fs (omega (arith, first)) (in_first_file file ds fs all.1)
