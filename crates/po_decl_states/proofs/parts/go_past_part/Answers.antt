use Rattle.std.proofs.Common.{refl}
use Rattle.std.proofs.lemmas.Bool.{iff_false}
use Rattle.po_decl_states.proofs.BehindParts.{comma_goes, no_part_goes, other_kind_goes, whole_goes}
use Rattle.po_decl_states.proofs.parts.go_past_part.Goals as goal

pub returns-then-stands-clause-goes : goal.returns-then-stands-clause-goes
returns-then-stands-clause-goes c = λ names.
    comma_goes c.args.tokens.now.list c.args.to c.args.at c.args.lists names c.args.below c.args.specs c.args.free c.args.seen c.args.typedef c.args.parts c.if-stands.ensures.behind

pub returns-then-not-stands-clause-goes : goal.returns-then-not-stands-clause-goes
returns-then-not-stands-clause-goes c = λ names.
    no_part_goes c.args.tokens.now.list c.args.to c.args.at c.args.lists names c.args.specs _ c.args.typedef c.args.parts (iff_false c.if-stands.ensures.first refl) (iff_false c.if-not-stands.ensures.first refl)

pub returns-then-not-agrees-clause-goes : goal.returns-then-not-agrees-clause-goes
returns-then-not-agrees-clause-goes c = λ names.
    other_kind_goes c.args.tokens.now.list c.args.to c.args.at c.args.lists names c.args.specs _ c.args.typedef c.args.parts (iff_false (rw c.as_slice.ensures at c.if-not-agrees.ensures) refl)

pub returns-clause-goes : goal.returns-clause-goes
returns-clause-goes c = λ names.
    whole_goes c.args.tokens.now.list c.args.to c.args.at c.args.lists names c.args.specs _ c.args.typedef c.args.parts ((rw c.as_slice.ensures at c.if-not-agrees.ensures).0 refl) c.if-not-stands.ensures.behind
