use Rattle.std.proofs.Common.{refl}
use Rattle.std.proofs.lemmas.Bool.{iff_false}
use Rattle.po_decl_states.proofs.AtSpecifiers.{declaration_ends, declaration_wants}
use Rattle.po_decl_states.proofs.specifiers.end_declaration.Goals as goal

pub returns-then-stands-clause-goes : goal.returns-then-stands-clause-goes
returns-then-stands-clause-goes c = λ names ends.
    declaration_ends c.args.tokens.now.list c.args.to c.args.at c.args.lists names c.args.below c.args.specs c.args.free c.args.seen c.args.typedef c.args.parts c.requires c.if-stands.ensures.behind ends

pub returns-clause-goes : goal.returns-clause-goes
returns-clause-goes c = λ names ends.
    declaration_wants c.args.tokens.now.list c.args.to c.args.at c.args.lists names c.args.below c.args.specs c.args.free c.args.seen c.args.typedef c.is_typedef-flag.result c.args.parts c.requires
    (iff_false c.if-stands.ensures.first refl) (rw c.as_slice.ensures at c.is_typedef-flag.ensures) ends
