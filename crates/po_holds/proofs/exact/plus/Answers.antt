use Rattle.std.proofs.Common.{arith, to_z-of_z}
use Rattle.std.specs.Prelude.{◌+ℤ◌}
use Rattle.std.proofs.lemmas.Int.{ints}
use Rattle.po_holds.proofs.Sums.{added, more_after, one_up, two_up, three_up, fits_sum, fits_up, fits_after}
use Rattle.po_holds.proofs.exact.plus.Goals as goal

pub overflow_add-result : goal.overflow_add-result
overflow_add-result c = omega (arith, ints, c.product-3.ensures.small, c.requires.few.a)

pub overflow_add-result-3 : goal.overflow_add-result-3
overflow_add-result-3 c = omega (arith, ints, c.product-4.ensures.small, c.product-5.ensures.small, c.requires.few.b)

pub overflow_add-result-4 : goal.overflow_add-result-4
overflow_add-result-4 c = omega (arith, ints, c.product.ensures.small, c.product-2.ensures.small, c.product-6.ensures.small)

pub overflow_add-result-5 : goal.overflow_add-result-5
overflow_add-result-5 c = omega (arith, ints, c.product.ensures.small, c.product-2.ensures.small, c.product-6.ensures.small, c.requires.few.c)

pub overflow_add-result-7 : goal.overflow_add-result-7
overflow_add-result-7 c = omega (arith, ints, c.product-7.ensures.small, c.product-8.ensures.small, c.requires.few.d)

pub overflow_add-result-8 : goal.overflow_add-result-8
overflow_add-result-8 c = omega (arith, ints, c.product-9.ensures.small, c.requires.few.e)

pub returns-clause-sum : goal.returns-clause-sum
returns-clause-sum c =
    let fits_a = fits_after c.args.s.now.a c.requires.few.a in
    let fits_b = fits_after c.args.s.now.b c.requires.few.b in
    let fits_c = fits_after c.args.s.now.c c.requires.few.c in
    let fits_d = fits_after c.args.s.now.d c.requires.few.d in
    let fits_e = fits_after c.args.s.now.e c.requires.few.e in
    let fits_1 = fits_up c.product.result (one_up c.product.result c.product.ensures.small) in
    let fits_2 = fits_up c.product-2.result (one_up c.product-2.result c.product-2.ensures.small) in
    let fits_3 = fits_up c.product-3.result (one_up c.product-3.result c.product-3.ensures.small) in
    let fits_4 = fits_up c.product-4.result (one_up c.product-4.result c.product-4.ensures.small) in
    let fits_5 = fits_up c.product-5.result (one_up c.product-5.result c.product-5.ensures.small) in
    let fits_6 = fits_up c.product-6.result (one_up c.product-6.result c.product-6.ensures.small) in
    let fits_7 = fits_up c.product-7.result (one_up c.product-7.result c.product-7.ensures.small) in
    let fits_8 = fits_up c.product-8.result (one_up c.product-8.result c.product-8.ensures.small) in
    let fits_9 = fits_up c.product-9.result (one_up c.product-9.result c.product-9.ensures.small) in
    let fits_12 = fits_up (c.product.result +ℤ c.product-2.result) (two_up c.product.result c.product-2.result c.product.ensures.small c.product-2.ensures.small) in
    let fits_more_b = fits_up (c.product-4.result +ℤ c.product-5.result) (two_up c.product-4.result c.product-5.result c.product-4.ensures.small c.product-5.ensures.small) in
    let fits_more_c = fits_up (c.product.result +ℤ c.product-2.result +ℤ c.product-6.result) (three_up c.product.result c.product-2.result c.product-6.result c.product.ensures.small c.product-2.ensures.small c.product-6.ensures.small) in
    let fits_more_d = fits_up (c.product-7.result +ℤ c.product-8.result) (two_up c.product-7.result c.product-8.result c.product-7.ensures.small c.product-8.ensures.small) in
    let fits_sum_a = fits_sum c.args.s.now.a c.product-3.result c.requires.few.a (one_up c.product-3.result c.product-3.ensures.small) in
    let fits_sum_b = fits_sum c.args.s.now.b (c.product-4.result +ℤ c.product-5.result) c.requires.few.b (two_up c.product-4.result c.product-5.result c.product-4.ensures.small c.product-5.ensures.small) in
    let fits_sum_c = fits_sum c.args.s.now.c (c.product.result +ℤ c.product-2.result +ℤ c.product-6.result) c.requires.few.c (three_up c.product.result c.product-2.result c.product-6.result c.product.ensures.small c.product-2.ensures.small c.product-6.ensures.small) in
    let fits_sum_d = fits_sum c.args.s.now.d (c.product-7.result +ℤ c.product-8.result) c.requires.few.d (two_up c.product-7.result c.product-8.result c.product-7.ensures.small c.product-8.ensures.small) in
    let fits_sum_e = fits_sum c.args.s.now.e c.product-9.result c.requires.few.e (one_up c.product-9.result c.product-9.ensures.small) in
    simp to_z-of_z (added c.args.s.now c.args.x.now c.args.y.now (record { a = c.args.s.now.a +ℤ c.product-3.result; b = c.args.s.now.b +ℤ (c.product-4.result +ℤ c.product-5.result); c = c.args.s.now.c +ℤ (c.product.result +ℤ c.product-2.result +ℤ c.product-6.result); d = c.args.s.now.d +ℤ (c.product-7.result +ℤ c.product-8.result); e = c.args.s.now.e +ℤ c.product-9.result })
    (λ i. c.args.s.now.a +ℤ c.product-3.ensures.value i) (λ i. c.args.s.now.b +ℤ (c.product-4.ensures.value i +ℤ c.product-5.ensures.value i)) (λ i. c.args.s.now.c +ℤ (c.product.ensures.value i +ℤ c.product-2.ensures.value i +ℤ c.product-6.ensures.value i)) (λ i. c.args.s.now.d +ℤ (c.product-7.ensures.value i +ℤ c.product-8.ensures.value i)) (λ i. c.args.s.now.e +ℤ c.product-9.ensures.value i))

pub returns-clause-after : goal.returns-clause-after
returns-clause-after c =
    let fits_a = fits_after c.args.s.now.a c.requires.few.a in
    let fits_b = fits_after c.args.s.now.b c.requires.few.b in
    let fits_c = fits_after c.args.s.now.c c.requires.few.c in
    let fits_d = fits_after c.args.s.now.d c.requires.few.d in
    let fits_e = fits_after c.args.s.now.e c.requires.few.e in
    let fits_1 = fits_up c.product.result (one_up c.product.result c.product.ensures.small) in
    let fits_2 = fits_up c.product-2.result (one_up c.product-2.result c.product-2.ensures.small) in
    let fits_3 = fits_up c.product-3.result (one_up c.product-3.result c.product-3.ensures.small) in
    let fits_4 = fits_up c.product-4.result (one_up c.product-4.result c.product-4.ensures.small) in
    let fits_5 = fits_up c.product-5.result (one_up c.product-5.result c.product-5.ensures.small) in
    let fits_6 = fits_up c.product-6.result (one_up c.product-6.result c.product-6.ensures.small) in
    let fits_7 = fits_up c.product-7.result (one_up c.product-7.result c.product-7.ensures.small) in
    let fits_8 = fits_up c.product-8.result (one_up c.product-8.result c.product-8.ensures.small) in
    let fits_9 = fits_up c.product-9.result (one_up c.product-9.result c.product-9.ensures.small) in
    let fits_12 = fits_up (c.product.result +ℤ c.product-2.result) (two_up c.product.result c.product-2.result c.product.ensures.small c.product-2.ensures.small) in
    let fits_more_b = fits_up (c.product-4.result +ℤ c.product-5.result) (two_up c.product-4.result c.product-5.result c.product-4.ensures.small c.product-5.ensures.small) in
    let fits_more_c = fits_up (c.product.result +ℤ c.product-2.result +ℤ c.product-6.result) (three_up c.product.result c.product-2.result c.product-6.result c.product.ensures.small c.product-2.ensures.small c.product-6.ensures.small) in
    let fits_more_d = fits_up (c.product-7.result +ℤ c.product-8.result) (two_up c.product-7.result c.product-8.result c.product-7.ensures.small c.product-8.ensures.small) in
    let fits_sum_a = fits_sum c.args.s.now.a c.product-3.result c.requires.few.a (one_up c.product-3.result c.product-3.ensures.small) in
    let fits_sum_b = fits_sum c.args.s.now.b (c.product-4.result +ℤ c.product-5.result) c.requires.few.b (two_up c.product-4.result c.product-5.result c.product-4.ensures.small c.product-5.ensures.small) in
    let fits_sum_c = fits_sum c.args.s.now.c (c.product.result +ℤ c.product-2.result +ℤ c.product-6.result) c.requires.few.c (three_up c.product.result c.product-2.result c.product-6.result c.product.ensures.small c.product-2.ensures.small c.product-6.ensures.small) in
    let fits_sum_d = fits_sum c.args.s.now.d (c.product-7.result +ℤ c.product-8.result) c.requires.few.d (two_up c.product-7.result c.product-8.result c.product-7.ensures.small c.product-8.ensures.small) in
    let fits_sum_e = fits_sum c.args.s.now.e c.product-9.result c.requires.few.e (one_up c.product-9.result c.product-9.ensures.small) in
    simp to_z-of_z (λ n after. more_after n c.args.s.now c.product-3.result (c.product-4.result +ℤ c.product-5.result) (c.product.result +ℤ c.product-2.result +ℤ c.product-6.result) (c.product-7.result +ℤ c.product-8.result) c.product-9.result after (one_up c.product-3.result c.product-3.ensures.small) (two_up c.product-4.result c.product-5.result c.product-4.ensures.small c.product-5.ensures.small) (three_up c.product.result c.product-2.result c.product-6.result c.product.ensures.small c.product-2.ensures.small c.product-6.ensures.small) (two_up c.product-7.result c.product-8.result c.product-7.ensures.small c.product-8.ensures.small) (one_up c.product-9.result c.product-9.ensures.small))
