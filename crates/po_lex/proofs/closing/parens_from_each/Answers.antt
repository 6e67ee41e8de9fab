use Rattle.std.proofs.Common.{◌≡◌, ℕ, ◌+◌, ◌-◌, List, [], length, drop, set, reverse, arith, rules, refl, ap, sym, ◌∙◌}
use Rattle.std.proofs.lemmas.List.{drop_all, length-set}
use Rattle.po_base.specs.declared.token.Token.{Token}
use Rattle.po_lex.specs.Brackets.{mark}
use Rattle.po_lex.specs.Closings.{parens_from_each, closings, met, width}
use Rattle.po_lex.proofs.Widths.{widths_more, closings_more}
use Rattle.po_lex.proofs.closing.parens_from_each.Goals as goal

pub loop-behind-init : goal.loop-behind-init
loop-behind-init c =
    let tokens : List Token = c.args.tokens.now in
    let widths : List ℕ = c.from_vec-widths.result in
    let long : length widths ≡ length tokens = ap length c.from_vec-widths.ensures ∙ (search rules) in
    let none : drop (length tokens - 0) tokens ≡ [] = drop_all (length tokens - 0) tokens (omega arith) in
    record {
      long = long;
      widths = drop_all (length tokens - 0) widths (omega arith) ∙ ap parens_from_each (sym none);
      closings = ap reverse c.new-closings.ensures ∙ ap closings (sym none);
    }

pub loop-behind-preserved : goal.loop-behind-preserved
loop-behind-preserved c =
    let tokens : List Token = c.args.tokens.now in
    let widths : List ℕ = c.loop-behind.widths in
    let behind : ℕ = c.loop-behind.behind in
    let at : ℕ = length tokens - 1 - behind in
    let t : Token = c.index-tokens-at.result in
    let put : c.set.new.self ≡ set widths at (width (mark t) behind (reverse c.loop-behind.closings)) =
    c.set.ensures ∙ ap (set widths at) (c.width.ensures ∙ ap (λ v. width v behind (reverse c.loop-behind.closings)) c.mark-byte.ensures) in
    record {
      long = ap length put ∙ length-set widths at _ ∙ c.loop-behind.invariant.long;
      widths = ap (drop (length tokens - (behind + 1))) put ∙ widths_more tokens behind at t widths (reverse c.loop-behind.closings) c.loop-behind-test.true refl
          c.index-tokens-at.is c.loop-behind.invariant.long c.loop-behind.invariant.widths c.loop-behind.invariant.closings;
      closings = c.in_ok-meet.ensures ∙ ap (λ v. met v behind (reverse c.loop-behind.closings)) c.mark-byte.ensures ∙
          closings_more tokens behind at t (reverse c.loop-behind.closings) c.loop-behind-test.true refl c.index-tokens-at.is c.loop-behind.invariant.closings;
    }

pub returns-clause-directive_effect_at : goal.returns-clause-directive_effect_at
returns-clause-directive_effect_at c =
    let tokens : List Token = c.args.tokens.now in
    let over : length tokens - c.loop-behind.behind ≡ 0 = omega (arith, c.loop-behind-test.false) in
    ap (λ n. drop n c.loop-behind.widths) (sym over) ∙ c.loop-behind.invariant.widths ∙ ap (λ n. parens_from_each (drop n tokens)) over
