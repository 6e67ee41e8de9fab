use Rattle.std.proofs.Common.{◌≡◌}
use Rattle.po_lists.proofs.Results.{if_ok-map}
use Rattle.po_tree.specs.Scope.{HidesTypes}
use Rattle.po_fun_heads.proofs.Hiding.{word_hidden}
use Rattle.po_fun_heads.proofs.scopes.hide_word.Goals as goal

pub returns-in-Some : goal.returns-in-Some
returns-in-Some c =
    if_ok-map {P = λ _. HidesTypes (λ x. c.in-Some.name ≡ x) c.args.names.now c.hide.new.self} c.hide.result (λ _ h. word_hidden c.in-Some.is h) c.hide.ensures.ok
