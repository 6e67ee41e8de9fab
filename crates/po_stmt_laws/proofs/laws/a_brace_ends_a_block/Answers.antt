use Rattle.po_stmt_laws.proofs.Items.{brace_both}
use Rattle.po_stmt_laws.proofs.laws.a_brace_ends_a_block.Goals as goal

pub returns : goal.returns
returns c = λ types room left rest xs. brace_both
