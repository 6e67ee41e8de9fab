use Rattle.po_decl_states.proofs.InDeclarators.{sizes_goes, wrong_sizes_goes}
use Rattle.po_decl_states.proofs.declarators.read_sizes.Goals as goal

pub returns-in_default-clause-goes : goal.returns-in_default-clause-goes
returns-in_default-clause-goes c = λ shut.
    wrong_sizes_goes c.args.tokens.now.list c.args.to c.args.at c.args.lists c.args.names.now c.args.below c.args.level c.args.stars c.args.word shut
    (λ types s. rw c.in_default.is at (c.in_ok-sizes.ensures.none types s))

pub returns-clause-goes : goal.returns-clause-goes
returns-clause-goes c = λ shut.
    rw c.suffix.ensures (sizes_goes c.args.tokens.now.list c.args.to c.args.at c.in-Some.end c.args.lists c.args.names.now c.args.below c.args.level c.args.stars c.args.word c.in-Some.sizes shut
    (λ types s. rw c.in-Some.is at (c.in_ok-sizes.ensures.found types s)))
