use Rattle.std.proofs.Common.{refl, arith, sym}
use Rattle.po_tree.specs.Signs.{string}
use Rattle.po_tree.specs.Layers.{height-Str}
use Rattle.po_exp_parts.proofs.Standing.{stands_first, stands_within}
use Rattle.std.proofs.lemmas.Bool.{iff_false}
use Rattle.po_exp_parts.proofs.SingleTokens.{strings_push, all_push, strings_best, strings_none, strings_begin}
use Rattle.po_exp_parts.proofs.leaves.strings_at.Goals as goal

pub loop-text-preserved : goal.loop-text-preserved
loop-text-preserved c =
    let i = c.loop-text.invariant in
    let w = c.in-Some.ensures in
    rw (c.in_ok-push.ensures.ok, c.in_ok-share.ensures) (record {
      read = strings_push c.loop-text.texts c.in-Some.text.now _ i.read (stands_first c.loop-text.end c.args.tokens.now (string c.in-Some.text.now) w.1);
      all = all_push c.loop-text.texts c.in-Some.text.now i.all w.0;
      after = omega (arith, i.after);
      within = omega (arith, stands_within c.loop-text.end c.args.tokens.now (string c.in-Some.text.now) w.1);
    })

pub returns-then-is_empty : goal.returns-then-is_empty
returns-then-is_empty c = λ types least depth high deep.
    let i = c.loop-text.invariant in
    let empty = c.is_empty.ensures.0 c.if-is_empty.true in
    strings_none least depth c.requires.string (strings_begin (rw empty at i.read) c.in_default.ensures)

pub returns : goal.returns
returns c = λ types least depth high deep.
    let i = c.loop-text.invariant in
    record {
      best = strings_best c.loop-text.texts (λ q. iff_false c.if-is_empty.ensures refl q) high deep c.requires.string i.read i.all c.in_default.ensures;
      counted = sym (height-Str c.loop-text.texts);
      after = i.after;
      within = i.within;
    }
