use Rattle.std.proofs.Common.{rules, ◌↔◌, FitsSigned, to_z-of_z}
use Rattle.std.specs.Prelude.{IsTrue}
use Rattle.po_holds.proofs.Telling.{first_fails, second_tells}
use Rattle.std.specs.Int.{w64}
use Rattle.po_holds.specs.Asking.{EachInside}
use Rattle.po_holds.proofs.Asked.{all_spanned}
use Rattle.po_holds.proofs.asking.are_spanned.Goals as goal

pub returns-then-not-are_inside : goal.returns-then-not-are_inside
returns-then-not-are_inside c =
    let narrow : FitsSigned w64 c.args.factor = search rules in
    let low : IsTrue c.are_inside.result ↔ EachInside c.args.factor c.args.at.now c.args.lo.now c.args.c.now = simp to_z-of_z at c.are_inside.ensures in
    first_fails c.are_inside.result low (all_spanned c.args.factor c.args.at.now c.args.lo.now c.args.hi.now c.args.c.now c.requires.lo c.requires.hi) (search rules)

pub returns : goal.returns
returns c =
    let narrow : FitsSigned w64 c.args.factor = search rules in
    let low : IsTrue c.are_inside.result ↔ EachInside c.args.factor c.args.at.now c.args.lo.now c.args.c.now = simp to_z-of_z at c.are_inside.ensures in
    let high : IsTrue c.are_inside-2.result ↔ EachInside c.args.factor c.args.at.now c.args.hi.now c.args.c.now = simp to_z-of_z at c.are_inside-2.ensures in
    second_tells c.are_inside.result c.are_inside-2.result low high (all_spanned c.args.factor c.args.at.now c.args.lo.now c.args.hi.now c.args.c.now c.requires.lo c.requires.hi) (search rules)
