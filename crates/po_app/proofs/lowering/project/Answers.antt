use Rattle.std.proofs.Common.{[], ◌≡◌, ◌++◌, ◌∷◌, ◌<◌, ◌∙◌, take, length, arith, subst, sym, ap, length-take}
use Rattle.std.specs.Prelude.{All}
use Rattle.std.proofs.lemmas.List.Elements.{All-nil, All-cons, All-append}
use Rattle.po_app.specs.Lowering.{IsFunction}
use Rattle.po_app.specs.Ranges.{IsSmallFunction}
use Rattle.po_ir.specs.declared.project.Function.{Function}
use Rattle.po_app.proofs.Lowers.{in_first_file}
use Rattle.po_app.proofs.Each.{AllZip-length, AllZip-step}
use Rattle.po_app.proofs.lowering.project.Goals as goal

pub loop-definition-preserved : goal.loop-definition-preserved
loop-definition-preserved c = record {
  functions = AllZip-step (IsFunction c.args.file.now) _ c.loop-definition.definition-index c.definition-item.result _ _ _ (omega arith) c.definition-item.is c.loop-definition.invariant.functions c.in_ok-function.ensures.function c.in_ok-push-2.ensures.ok;
  small = subst (λ l. All IsSmallFunction l) (sym c.in_ok-push-2.ensures.ok) (All-append IsSmallFunction c.loop-definition.functions _ c.loop-definition.invariant.small (All-cons IsSmallFunction c.in_ok-function.field-0 [] c.in_ok-function.ensures.small (All-nil _)));
}

pub returns-clause-small : goal.returns-clause-small
returns-clause-small c =
    let as_many = AllZip-length (IsFunction c.args.file.now) (take c.loop-definition.definition-index c.as_slice-definition-items.result.now) c.loop-definition.functions c.loop-definition.invariant.functions in
    let taken = length-take c.loop-definition.definition-index c.as_slice-definition-items.result.now in
    let whole = ap length c.as_slice-definition-items.ensures in
    let files_one : 1 ≡ length c.push.new.self = sym (ap length (c.in_ok-push.ensures.ok ∙ ap (λ l. l ++ c.in_ok-share.field-0 ∷ []) c.new-files.ensures)) in
    record {
      few_files = omega arith;
      few = omega (arith, as_many, taken, whole, c.requires.few);
      small = c.loop-definition.invariant.small;
      in_files = subst (λ n. All (λ (f : Function). f.file.0 < n) c.loop-definition.functions) files_one (in_first_file _ _ _ c.loop-definition.invariant.functions);
    }
