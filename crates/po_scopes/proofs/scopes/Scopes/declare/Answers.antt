use Rattle.std.proofs.Common.{rules, sym, ap, ◌∙◌}
use Rattle.po_lists.proofs.Results.{on_ok-map}
use Rattle.po_typed.specs.Scopes.{within_innermost, word_here}
use Rattle.po_scopes.specs.Standing.{and_word}
use Rattle.po_scopes.specs.Meanings.{as_local}
use Rattle.po_scopes.proofs.Blocks.{new_word, declared}
use Rattle.po_scopes.proofs.scopes.Scopes.declare.Goals as goal

pub add-requires : goal.add-requires
add-requires c = new_word c.self.inside.scopes.items c.len-last.result c.index_mut.result.now c.args.name (search rules) (λ q. c.requires.inside (sym c.self.view_is ∙ q)) c.index_mut.ensures.value (ap (λ bs. word_here bs c.args.name) c.self.view_is ∙ c.requires.new)

pub returns-clause-ok : goal.returns-clause-ok
returns-clause-ok c = on_ok-map c.add.result (λ q. declared c.self.inside.scopes.items c.len-last.result c.index_mut.result.now c.args.name (search rules) (λ q. c.requires.inside (sym c.self.view_is ∙ q)) c.index_mut.ensures.value c.args.local c.add.new.self q ∙ ap (within_innermost (and_word c.args.name (as_local c.args.local))) c.self.view_is) c.add.ensures.ok
