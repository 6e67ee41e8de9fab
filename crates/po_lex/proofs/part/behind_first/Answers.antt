use Rattle.std.proofs.Common.{◌≡◌, ◌∙◌, ◌+◌, ◌-◌, sym, ap, take, drop, arith, ℕ, List}
use Rattle.std.proofs.lemmas.List.{drop-drop, drop-take}
use Rattle.std.proofs.lemmas.Result.{IfOk-weaker}
use Rattle.po_lex.proofs.part.behind_first.Goals as goal

pub returns : goal.returns
returns c =
    let file : List ℕ = c.args.file.now in
    let at : ℕ = c.args.at in
    let end : ℕ = c.args.end in
    let n : at + end - (at + 1) ≡ end - 1 = omega arith in
    let m : 1 + (end - 1) ≡ end = omega arith in
    let so : take (at + end - (at + 1)) (drop (at + 1) file) ≡ drop 1 (take end (drop at file)) =
    ap (λ k. take k (drop (at + 1) file)) n ∙ ap (take (end - 1)) (sym (drop-drop 1 at file)) ∙ sym (drop-take 1 (end - 1) (drop at file)) ∙ ap (λ k. drop 1 (take k (drop at file))) m in
    IfOk-weaker c.part.result (λ line. line ≡ take (at + end - (at + 1)) (drop (at + 1) file)) (λ line. line ≡ drop 1 (take end (drop at file))) (λ line q. q ∙ so) c.part.ensures
