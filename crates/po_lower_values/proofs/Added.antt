-- One node behind a temporary, or alone, whose instruction is known by an equation.
use Rattle.std.specs.Prelude.{ℕ, ◌≡◌}
use Rattle.std.proofs.Common.{ap, subst, ◌∙◌}
use Rattle.po_base.specs.declared.spot.Spot.{Spot}
use Rattle.po_ir.specs.declared.instr.Ty.{Ty}
use Rattle.po_ir.specs.declared.instr.Instr.{Instr}
use Rattle.po_lowering.specs.Temporaries.{State, Takes, register}
use Rattle.po_draft.specs.Sketches.{Sketch, with_node, resolve}
use Rattle.po_lower_nodes.specs.Groups.{AddsValue}
use Rattle.po_lower_nodes.proofs.Groups.{adds_value}

pub adds_given : (d e h : Sketch) (held taken : Ty) (r : ℕ) (given : Instr) (instr : ℕ → Instr) (spot : Spot) → taken ≡ held → Takes taken d.state r e.state → e.nodes ≡ d.nodes →
    given ≡ instr r → h ≡ with_node given spot e → ((g : ℕ → ℕ) → resolve g (instr r) ≡ instr r) → AddsValue d h held instr spot (register r)
adds_given d e h held taken r given instr spot same takes nodes is q fixed =
    adds_value d e h held r instr spot (subst (λ t. Takes t d.state r e.state) same takes) nodes (q ∙ ap (λ i. with_node i spot e) is) fixed
