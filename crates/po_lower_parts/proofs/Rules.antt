-- A value that is converted, read or moved, over a graph that is being made.
use Rattle.std.proofs.Common.{◌≡◌, ℕ, List, Bool, true, false, refl, sym, ap, ◌∙◌, subst, length}
use Rattle.std.specs.Prelude.{pos, ◌≢◌}
use Rattle.po_base.specs.declared.operators.Op.TheVariants as op
use Rattle.po_base.specs.declared.operand.Opnd.{Opnd}
use Rattle.po_base.specs.declared.operand.Opnd.TheVariants as o
use Rattle.po_base.specs.declared.spot.Spot.{Spot}
use Rattle.po_ir.specs.declared.instr.Access.{Access}
use Rattle.po_ir.specs.declared.instr.Ty.{Ty}
use Rattle.po_ir.specs.declared.instr.Ty.TheVariants as ty
use Rattle.po_ir.specs.declared.instr.Instr.TheVariants as ins
use Rattle.po_ir.specs.declared.graph.Node.{Node}
use Rattle.po_types.specs.declared.ctype.CType.{CType}
use Rattle.po_lowering.specs.Typed.{Typed}
use Rattle.po_lowering.specs.Types.{register_type, is_scalar, access_of}
use Rattle.po_lowering.specs.Temporaries.{State, Takes, reg, register}
use Rattle.po_lowering.specs.Conversions.{Converts, change, nothing, comparison, conversion, unchanged, compared, converted}
use Rattle.po_lowering.specs.Expressions.{Reads, by_address, loaded, Moves, at_start, moved}
use Rattle.po_draft.specs.Sketches.{Sketch, with_node}
use Rattle.po_draft.specs.Making.{Makes}
use Rattle.po_draft.proofs.Making.{no_node, one_node}

abbrev pub Converted : Typed → Sketch → Sketch → Spot → CType → CType → Opnd → Opnd → Type 0
Converted f d e spot from to v w = Makes d e (λ final g. Converts f final d.state (length d.nodes) spot from to v w (length e.nodes) e.state)

pub convert_nothing : (f : Typed) (d e : Sketch) (spot : Spot) (from to : CType) (v : Opnd) → e ≡ d → change f from to v ≡ nothing → Converted f d e spot from to v v
convert_nothing f d e spot from to v q none =
    no_node d e (λ final b t. Converts f final d.state (length d.nodes) spot from to v v b t) q
    (λ final. unchanged d.state (length d.nodes) spot from to v none)

pub convert_compared : (f : Typed) (d e h : Sketch) (spot : Spot) (from to : CType) (v : Opnd) (held taken : Ty) (r : ℕ) → change f from to v ≡ comparison held → taken ≡ register_type to →
    Takes taken d.state r e.state → e.nodes ≡ d.nodes → h ≡ with_node (ins.Bin (reg r) op.Ne held v (o.Num (pos 0))) spot e → Converted f d h spot from to v (register r)
convert_compared f d e h spot from to v held taken r is same takes nodes q =
    one_node d e h (ins.Bin (reg r) op.Ne held v (o.Num (pos 0))) spot (λ final b t. Converts f final d.state (length d.nodes) spot from to v (register r) b t) nodes q (λ g. refl)
    (λ final at. compared d.state e.state (length d.nodes) spot from to v held r is (subst (λ t. Takes t d.state r e.state) same takes) at)

pub convert_converted : (f : Typed) (d e h : Sketch) (spot : Spot) (from to : CType) (v : Opnd) (held taken : Ty) (align r : ℕ) → change f from to v ≡ conversion held align → taken ≡ register_type to →
    Takes taken d.state r e.state → e.nodes ≡ d.nodes → h ≡ with_node (ins.Conv (reg r) v held align) spot e → Converted f d h spot from to v (register r)
convert_converted f d e h spot from to v held taken align r is same takes nodes q =
    one_node d e h (ins.Conv (reg r) v held align) spot (λ final b t. Converts f final d.state (length d.nodes) spot from to v (register r) b t) nodes q (λ g. refl)
    (λ final at. converted d.state e.state (length d.nodes) spot from to v held align r is (subst (λ t. Takes t d.state r e.state) same takes) at)

abbrev pub Read : Typed → Sketch → Sketch → Spot → CType → Opnd → Opnd → Type 0
Read f d e spot t v w = Makes d e (λ final g. Reads f final d.state (length d.nodes) spot t v w (length e.nodes) e.state)

pub read_address : (f : Typed) (d e : Sketch) (spot : Spot) (t : CType) (v : Opnd) → e ≡ d → is_scalar t ≡ false → Read f d e spot t v v
read_address f d e spot t v q h =
    no_node d e (λ final b s. Reads f final d.state (length d.nodes) spot t v v b s) q
    (λ final. by_address d.state (length d.nodes) spot t v h)

pub read_loaded : (f : Typed) (d e h : Sketch) (spot : Spot) (t : CType) (v : Opnd) (access : Access) (taken : Ty) (r : ℕ) → is_scalar t ≡ true → access ≡ access_of f t → taken ≡ register_type t →
    Takes taken d.state r e.state → e.nodes ≡ d.nodes → h ≡ with_node (ins.Load (reg r) v access) spot e → Read f d h spot t v (register r)
read_loaded f d e h spot t v access taken r is same held takes nodes q =
    one_node d e h (ins.Load (reg r) v (access_of f t)) spot (λ final b s. Reads f final d.state (length d.nodes) spot t v (register r) b s) nodes
    (q ∙ ap (λ z. with_node (ins.Load (reg r) v z) spot e) same) (λ g. refl)
    (λ final at. loaded d.state e.state (length d.nodes) spot t v r is (subst (λ z. Takes z d.state r e.state) held takes) at)

abbrev pub Moved : Sketch → Sketch → Spot → ℕ → Opnd → Opnd → Type 0
Moved d e spot offset v w = Makes d e (λ final g. Moves final d.state (length d.nodes) spot offset v w (length e.nodes) e.state)

pub move_nowhere : (d e : Sketch) (spot : Spot) (offset : ℕ) (v : Opnd) → e ≡ d → offset ≡ 0 → Moved d e spot offset v v
move_nowhere d e spot offset v q zero_offset =
    subst (λ n. Moved d e spot n v v) (sym zero_offset)
    (no_node d e (λ final b s. Moves final d.state (length d.nodes) spot 0 v v b s) q (λ final. at_start d.state (length d.nodes) spot v))

pub move_further : (d e h : Sketch) (spot : Spot) (offset : ℕ) (v : Opnd) (r : ℕ) → offset ≢ 0 → Takes ty.Ptr d.state r e.state → e.nodes ≡ d.nodes →
    h ≡ with_node (ins.PtrAdd (reg r) v (o.Num (pos offset)) (pos 1)) spot e → Moved d h spot offset v (register r)
move_further d e h spot offset v r far takes nodes q =
    one_node d e h (ins.PtrAdd (reg r) v (o.Num (pos offset)) (pos 1)) spot (λ final b s. Moves final d.state (length d.nodes) spot offset v (register r) b s) nodes q (λ g. refl)
    (λ final at. moved d.state e.state (length d.nodes) spot offset v r far takes at)
