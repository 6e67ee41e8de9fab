use Rattle.std.proofs.Common.{rules, arith, ◌≡◌, ◌-◌, length}
use Rattle.po_memory.specs.declared.value.Byte.TheVariants.{Blank, Part}
use Rattle.po_memory.proofs.Numbers.{none_joined, joined_left, not_joined, left_small, seven_small}
use Rattle.po_memory.proofs.reading.joined.Goals as goal

pub loop-left-init : goal.loop-left-init
loop-left-init c = record {
  within = omega arith;
  joined = none_joined c.args.bytes.now;
  small = let none : length c.args.bytes.now - length c.args.bytes.now ≡ 0 = omega arith in rw none (omega arith);
}

pub overflow_mul-sum : goal.overflow_mul-sum
overflow_mul-sum c = let less = seven_small c.loop-left.sum (length c.args.bytes.now - c.loop-left.left) c.loop-left.invariant.small (omega arith) in search (rules, less)

pub overflow_add-sum : goal.overflow_add-sum
overflow_add-sum c = let less = seven_small c.loop-left.sum (length c.args.bytes.now - c.loop-left.left) c.loop-left.invariant.small (omega arith) in search (rules, less)

pub loop-left-preserved : goal.loop-left-preserved
loop-left-preserved c = record {
  within = omega arith;
  joined = joined_left c.args.bytes.now c.loop-left.left c.in-Number.n c.loop-left.sum (omega arith) (omega arith) c.in-Number.is (search rules) c.loop-left.invariant.joined;
  small = left_small c.loop-left.sum c.in-Number.n (length c.args.bytes.now) c.loop-left.left (omega arith) (omega arith) c.loop-left.invariant.small (search rules);
}

pub returns-in-Blank : goal.returns-in-Blank
returns-in-Blank c = not_joined c.args.bytes.now c.loop-left.left Blank (omega arith) (omega arith) c.in-Blank.is (λ n e. cc)

pub returns-in-Part : goal.returns-in-Part
returns-in-Part c = not_joined c.args.bytes.now c.loop-left.left (Part c.in-Part.block c.in-Part.offset c.in-Part.k) (omega arith) (omega arith) c.in-Part.is (λ n e. cc)
