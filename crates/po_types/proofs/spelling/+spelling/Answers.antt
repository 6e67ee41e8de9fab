use Rattle.std.proofs.Common.{◌≡◌, ◌<◌, ◌≤◌, ◌∙◌, List, [], ◌++◌, ℕ, length, get_or, take_all, map, codes, None, sym, ap, subst, arith}
use Rattle.std.proofs.lemmas.List.{length-map}
use Rattle.std.proofs.lemmas.Result.{on_ok_weaker}
use Rattle.po_types.specs.declared.ctype.CType.{CType}
use Rattle.po_types.specs.declared.ctype.CType.TheVariants as v
use Rattle.po_types.specs.Spelling.{Spelled, AllSpelled, Writes, void, integer, integer_text}
use Rattle.po_types.specs.Nesting.{weight, greatest}
use Rattle.po_types.proofs.Nested.{pointer_part, array_part, result_part, params_inside, param_at, member_lighter}
use Rattle.po_types.proofs.Spells.{Ends, through_pointer, through_array, through_function, by_tag, by_members, no_items, one_more, value_is}
use Rattle.po_types.proofs.spelling.+spelling.Goals as goal

pub spell-loop-inner-init : goal.spell-loop-inner-init
spell-loop-inner-init w c = (omega arith, omega arith, λ after written. written)

pub spell-returns-in-Void : goal.spell-returns-in-Void
spell-returns-in-Void w c =
    on_ok_weaker c.add.result
    (λ q. c.loop-inner.invariant.2 c.add.new.self (codes "void", subst (λ t. Spelled c.args.env.now t (codes "void")) (sym c.in-Void.is) void, q))
    c.add.ensures

pub spell-returns-in-Int : goal.spell-returns-in-Int
spell-returns-in-Int w c =
    let number = c.in-Int.number in
    on_ok_weaker c.spell_integer.result
    (λ q. c.loop-inner.invariant.2 c.spell_integer.new.out (
      integer_text number,
      subst (λ t. Spelled c.args.env.now t (integer_text number)) (sym c.in-Int.is) (integer number),
      q,
    ))
    c.spell_integer.ensures

pub spell-returns-in-Struct : goal.spell-returns-in-Struct
spell-returns-in-Struct w c =
    on_ok_weaker c.spell_struct.result
    (λ q. c.loop-inner.invariant.2 c.spell_struct.new.out
    (subst (λ t. Writes (Spelled c.args.env.now t) c.loop-inner.out c.spell_struct.new.out) (sym c.in-Struct.is) q))
    c.spell_struct.ensures

pub spell-loop-inner-smaller-in-Ptr : goal.spell-loop-inner-smaller-in-Ptr
spell-loop-inner-smaller-in-Ptr w c = (pointer_part c.loop-inner.inner.now c.in-Ptr.to c.get-inner.result.now c.in-Ptr.is c.get-inner.ensures).1

pub spell-loop-inner-preserved-in-Ptr : goal.spell-loop-inner-preserved-in-Ptr
spell-loop-inner-preserved-in-Ptr w c =
    let part = pointer_part c.loop-inner.inner.now c.in-Ptr.to c.get-inner.result.now c.in-Ptr.is c.get-inner.ensures in
    let i = c.loop-inner.invariant in
    let so_far : Ends c.args.env.now c.args.t.now c.args.out.now (v.Ptr c.get-inner.result.now) c.loop-inner.out =
    subst (λ t. Ends c.args.env.now c.args.t.now c.args.out.now t c.loop-inner.out) (c.in-Ptr.is ∙ ap v.Ptr (sym c.get-inner.ensures)) i.2 in
    (omega (arith, part.0, i.0), omega (arith, part.1, i.1), through_pointer c.args.env.now c.args.t.now _ _ _ _ so_far c.in_ok-add-in-Ptr.ensures)

pub spell-loop-inner-smaller-in-Array : goal.spell-loop-inner-smaller-in-Array
spell-loop-inner-smaller-in-Array w c =
    (array_part c.loop-inner.inner.now c.in-Array.element c.get-inner-in-Array.result.now c.in-Array.count c.in-Array.is c.get-inner-in-Array.ensures).1

pub spell-loop-inner-preserved-in-Array : goal.spell-loop-inner-preserved-in-Array
spell-loop-inner-preserved-in-Array w c =
    let part = array_part c.loop-inner.inner.now c.in-Array.element c.get-inner-in-Array.result.now c.in-Array.count c.in-Array.is c.get-inner-in-Array.ensures in
    let i = c.loop-inner.invariant in
    let so_far : Ends c.args.env.now c.args.t.now c.args.out.now (v.Array c.get-inner-in-Array.result.now c.in-Array.count) c.loop-inner.out =
    subst (λ t. Ends c.args.env.now c.args.t.now c.args.out.now t c.loop-inner.out)
    (c.in-Array.is ∙ ap (λ t. v.Array t c.in-Array.count) (sym c.get-inner-in-Array.ensures)) i.2 in
    (omega (arith, part.0, i.0), omega (arith, part.1, i.1), through_array c.args.env.now c.args.t.now _ _ _ _ _ so_far c.in_ok-spell_size-in-Array.ensures)

pub spell-spell_params-requires : goal.spell-spell_params-requires
spell-spell_params-requires w c =
    let i = c.loop-inner.invariant in
    let least = params_inside c.args.env.now c.args.t.now c.loop-inner.inner.now c.in-Fun.to c.in-Fun.params c.as_slice.result.now c.in-Fun.more c.in-Fun.is
    (c.as_slice.ensures ∙ c.get.ensures) i.0 i.1 in
    (omega (arith, least, c.decreases), c.requires)

pub spell-loop-inner-smaller : goal.spell-loop-inner-smaller
spell-loop-inner-smaller w c =
    (result_part c.loop-inner.inner.now c.in-Fun.to c.get-inner-in-Fun.result.now c.in-Fun.params c.in-Fun.more c.in-Fun.is c.get-inner-in-Fun.ensures).1

pub spell-loop-inner-preserved : goal.spell-loop-inner-preserved
spell-loop-inner-preserved w c =
    let part = result_part c.loop-inner.inner.now c.in-Fun.to c.get-inner-in-Fun.result.now c.in-Fun.params c.in-Fun.more c.in-Fun.is c.get-inner-in-Fun.ensures in
    let i = c.loop-inner.invariant in
    let list : c.as_slice.result.now ≡ c.in-Fun.params = c.as_slice.ensures ∙ c.get.ensures in
    let so_far : Ends c.args.env.now c.args.t.now c.args.out.now (v.Fun c.get-inner-in-Fun.result.now c.in-Fun.params c.in-Fun.more) c.loop-inner.out =
    subst (λ t. Ends c.args.env.now c.args.t.now c.args.out.now t c.loop-inner.out)
    (c.in-Fun.is ∙ ap (λ t. v.Fun t c.in-Fun.params c.in-Fun.more) (sym c.get-inner-in-Fun.ensures)) i.2 in
    let items = subst (λ l. Writes (AllSpelled c.args.env.now l) c.add-in-Fun.new.self c.spell_params.new.out) list c.in_ok-spell_params-in-Fun.ensures in (
      omega (arith, part.0, i.0),
      omega (arith, part.1, i.1),
      through_function c.args.env.now c.args.t.now _ _ _ _ _ _ _ _ so_far c.in_ok-add-in-Fun.ensures items c.in_ok-spell_end-in-Fun.ensures,
    )

pub spell_members-loop-i-init : goal.spell_members-loop-i-init
spell_members-loop-i-init w c = no_items c.args.env.now c.args.out.now

pub spell_members-spell-requires : goal.spell_members-spell-requires
spell_members-spell-requires w c =
    let members = get_or c.args.env.now.members c.args.n [] in
    let same : c.in-Some.members.now ≡ members = c.in-Some.ensures ∙ ap (λ ms. get_or ms c.args.n []) c.as_slice.ensures in
    let count = c.len-i-end.ensures ∙ ap length same in
    let within : c.loop-i.i < length members = omega (arith, count, c.loop-i-test.true) in
    let none : List ℕ × CType = ([], v.Void) in
    let value : c.value_at.result.now ≡ (get_or members c.loop-i.i none).1 = c.value_at.ensures none ∙ ap (λ ms. (get_or ms c.loop-i.i none).1) same in
    let less = subst (λ t. weight c.args.env.now t < weight c.args.env.now (v.Struct c.args.n)) (sym value)
    (member_lighter c.args.env.now c.args.n c.loop-i.i none c.requires.founded c.requires.untagged within) in
    (omega (arith, less, c.decreases), c.requires.founded)

pub spell_members-loop-i-preserved : goal.spell_members-loop-i-preserved
spell_members-loop-i-preserved w c =
    let members = get_or c.args.env.now.members c.args.n [] in
    let same : c.in-Some.members.now ≡ members = c.in-Some.ensures ∙ ap (λ ms. get_or ms c.args.n []) c.as_slice.ensures in
    let count = c.len-i-end.ensures ∙ ap length same in
    let within : c.loop-i.i < length members = omega (arith, count, c.loop-i-test.true) in
    let of_map = length-map members (λ m. m.1) in
    let value = value_is members c.loop-i.i c.value_at.result.now within (λ d. c.value_at.ensures d ∙ ap (λ ms. (get_or ms c.loop-i.i d).1) same) in
    one_more c.args.env.now (map (λ m. m.1) members) c.loop-i.i c.value_at.result.now _ _ _ _ (omega (arith, within, of_map)) value c.loop-i.invariant
    c.in_ok-separate-in-Some.ensures c.in_ok-spell-in-Some.ensures

pub spell_members-returns-in-None : goal.spell_members-returns-in-None
spell_members-returns-in-None w c =
    subst (λ ms. Writes (AllSpelled c.args.env.now (map (λ m. m.1) ms)) c.args.out.now c.args.out.now) (sym (ap (λ ms. get_or ms c.args.n []) (sym c.as_slice.ensures) ∙ c.in-None.ensures)) (no_items c.args.env.now c.args.out.now)

pub spell_members-returns-after-loop-i : goal.spell_members-returns-after-loop-i
spell_members-returns-after-loop-i w c =
    let members = get_or c.args.env.now.members c.args.n [] in
    let same : c.in-Some.members.now ≡ members = c.in-Some.ensures ∙ ap (λ ms. get_or ms c.args.n []) c.as_slice.ensures in
    let count = c.len-i-end.ensures ∙ ap length same in
    let of_map = length-map members (λ m. m.1) in
    subst (λ l. Writes (AllSpelled c.args.env.now l) c.args.out.now c.loop-i.out)
    (take_all c.loop-i.i (map (λ m. m.1) members) (omega (arith, count, of_map, c.loop-i-test.false))) c.loop-i.invariant

pub spell_params-loop-i-init : goal.spell_params-loop-i-init
spell_params-loop-i-init w c = no_items c.args.env.now c.args.out.now

pub spell_params-spell-requires : goal.spell_params-spell-requires
spell_params-spell-requires w c =
    let item = c.index-params-i.result in
    let least = subst (λ t. weight c.args.env.now t ≤ greatest (map (weight c.args.env.now) c.args.params.now)) (sym c.index-params-i.is) (param_at c.args.env.now c.args.params.now c.loop-i.i item c.loop-i-test.true) in
    (omega (arith, least, c.decreases), c.requires)

pub spell_params-loop-i-preserved : goal.spell_params-loop-i-preserved
spell_params-loop-i-preserved w c =
    one_more c.args.env.now c.args.params.now c.loop-i.i c.index-params-i.result _ _ _ _ c.loop-i-test.true (sym c.index-params-i.is) c.loop-i.invariant
    c.in_ok-separate.ensures c.in_ok-spell.ensures

pub spell_struct-returns-in_ok-add-in-Some : goal.spell_struct-returns-in_ok-add-in-Some
spell_struct-returns-in_ok-add-in-Some w c =
    on_ok_weaker c.add-in-Some.result
    (λ q. by_tag c.args.env.now c.args.n c.in-Some.tag.now _ _ _ (ap (λ ns. get_or ns c.args.n None) (sym c.as_slice.ensures) ∙ sym c.in-Some.ensures) c.in_ok-add-in-Some.ensures
    (q ∙ ap (λ x. c.add.new.self ++ x) c.bytes.ensures))
    c.add-in-Some.ensures

pub spell_struct-returns-in_ok-spell_members-in-None : goal.spell_struct-returns-in_ok-spell_members-in-None
spell_struct-returns-in_ok-spell_members-in-None w c =
    on_ok_weaker c.add-in-None-2.result
    (λ q. by_members c.args.env.now c.args.n _ _ _ _ (ap (λ ns. get_or ns c.args.n None) (sym c.as_slice.ensures) ∙ sym c.in-None.ensures) c.in_ok-add-in-None.ensures c.in_ok-spell_members-in-None.ensures q)
    c.add-in-None-2.ensures
