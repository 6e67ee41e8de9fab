use Rattle.std.proofs.Common.{subst, sym}
use Rattle.po_typed.specs.BaseTypes.{ArePointers}
use Rattle.po_specified.proofs.Pointers.{is_pointer, of_elements, to_array, not_void, not_number, not_struct, not_function}
use Rattle.po_specified.proofs.declarators.are_pointers.Goals as goal

pub returns-in-Ptr : goal.returns-in-Ptr
returns-in-Ptr c = c.loop-inner.invariant.1 (is_pointer _ c.in-Ptr.field-0 c.in-Ptr.is)

pub returns-in-Void : goal.returns-in-Void
returns-in-Void c = λ h. not_void _ c.in-Void.is (c.loop-inner.invariant.0 h)

pub returns-in-Int : goal.returns-in-Int
returns-in-Int c = λ h. not_number _ c.in-Int.field-0 c.in-Int.is (c.loop-inner.invariant.0 h)

pub returns-in-Struct : goal.returns-in-Struct
returns-in-Struct c = λ h. not_struct _ c.in-Struct.field-0 c.in-Struct.is (c.loop-inner.invariant.0 h)

pub returns-in-Fun : goal.returns-in-Fun
returns-in-Fun c = λ h. not_function _ c.in-Fun.field-0 c.in-Fun.field-1 c.in-Fun.field-2 c.in-Fun.is (c.loop-inner.invariant.0 h)

pub loop-inner-preserved : goal.loop-inner-preserved
loop-inner-preserved c = (
  (λ h. subst ArePointers (sym c.get-inner.ensures) (of_elements _ c.in-Array.element c.in-Array.field-1 c.in-Array.is (c.loop-inner.invariant.0 h))),
  (λ h. c.loop-inner.invariant.1 (to_array _ c.in-Array.element c.in-Array.field-1 c.in-Array.is (subst ArePointers c.get-inner.ensures h))),
)
