use Rattle.std.proofs.Common.{refl, take_all}
use Rattle.po_tree.proofs.Gathered.{contains_more, contains_here}
use Rattle.po_decl_states.proofs.words.is_typedef.Goals as goal

pub loop-spec-preserved : goal.loop-spec-preserved
loop-spec-preserved c = contains_more c.loop-spec.spec-index c.args.specs.now c.spec-item.result _ c.loop-spec-test.true c.spec-item.is
    c.loop-spec.invariant (λ h. absurd {A = ⊥} (cc (c.if-is_typedef_word.ensures.1 h)))

pub returns-then-is_typedef_word : goal.returns-then-is_typedef_word
returns-then-is_typedef_word c =
    ((λ _. contains_here c.loop-spec.spec-index c.args.specs.now c.spec-item.result _ c.loop-spec-test.true c.spec-item.is (c.if-is_typedef_word.ensures.0 refl)), (λ _. refl))

pub returns : goal.returns
returns c = ((λ h. absurd cc), (λ h. absurd (c.loop-spec.invariant (rw (take_all c.loop-spec.spec-index c.args.specs.now c.loop-spec-test.false) h))))
