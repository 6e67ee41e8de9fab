use Rattle.std.proofs.Common.{◌≡◌, ◌∷◌, ◌++◌, ◌≤◌, length, subst, sym, ap, ◌∙◌, arith}
use Rattle.std.specs.Vec.Iter.{into_iter_items}
use Rattle.std.proofs.lemmas.List.{length_push}
use Rattle.po_link.specs.Parted.{AreParts}
use Rattle.po_link.proofs.Owned.{taken_more, taken_all}
use Rattle.po_link.proofs.Joining.{room, place_is, numbers_are, rest_more}
use Rattle.po_link.proofs.join.join_units.Goals as goal

pub split_at-requires : goal.split_at-requires
split_at-requires c =
    let at = c.loop-unit in
    let x = c.in-Some.unit in
    let steps : into_iter_items at.unit-iterator ≡ x ∷ into_iter_items c.next.new.self = c.in-Some.ensures.steps.0 in
    let order : at.yielded ++ (x ∷ into_iter_items c.next.new.self) ≡ c.args.units = ap (λ l. at.yielded ++ l) (sym steps) ∙ at.invariant.taken in
    subst (λ n. n ≤ length at.rest.now) (sym c.len.ensures) (room c.args.units at.yielded (into_iter_items c.next.new.self) x c.args.numbers.now at.rest.now order c.requires.numbers at.invariant.numbers)

pub loop-unit-preserved : goal.loop-unit-preserved
loop-unit-preserved c =
    let at = c.loop-unit in
    let x = c.in-Some.unit in
    let steps : into_iter_items at.unit-iterator ≡ x ∷ into_iter_items c.next.new.self = c.in-Some.ensures.steps.0 in
    let order : at.yielded ++ (x ∷ into_iter_items c.next.new.self) ≡ c.args.units = ap (λ l. at.yielded ++ l) (sym steps) ∙ at.invariant.taken in
    let others = into_iter_items c.next.new.self in
    record {
      taken = taken_more at.yielded x _ _ _ at.invariant.taken steps;
      left = let was = at.invariant.left in let gone = c.in-Some.ensures.steps.1 in let short = ap length steps in omega arith;
      made = subst (λ n. AreParts c.args.units n c.add_unit.new.parts) (sym (length_push at.yielded x))
          (c.in_ok-add_unit.ensures c.args.units (length at.yielded) (place_is c.args.units at.yielded others x c.args.numbers.now at.rest.now order c.requires.numbers at.invariant.numbers) c.requires.seen
          (numbers_are c.args.units at.yielded others x c.args.numbers.now at.rest.now order c.requires.numbers at.invariant.numbers _ c.len.result c.len.ensures c.split_at.ensures.front) at.invariant.made);
      numbers = rest_more c.args.units at.yielded others x c.args.numbers.now at.rest.now order c.requires.numbers at.invariant.numbers _ c.len.result c.len.ensures c.split_at.ensures.back;
    }

pub returns : goal.returns
returns c =
    let at = c.loop-unit in
    let all : at.yielded ≡ c.args.units = taken_all at.yielded _ c.args.units _ at.invariant.taken at.invariant.left c.in-None.ensures.steps.0 in
    subst (λ l. AreParts c.args.units (length l) at.parts) all at.invariant.made
