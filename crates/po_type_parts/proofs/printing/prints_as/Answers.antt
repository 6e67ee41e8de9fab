use Rattle.po_lists.proofs.Results.{if_ok-map}
use Rattle.po_choices.proofs.Whether.{found_as}
use Rattle.po_type_parts.proofs.PrintedTypes.{int_printed, text_printed, printed, prints_a_long, long_is_promoted, prints_a_size, size_is_promoted}
use Rattle.po_type_parts.proofs.printing.prints_as.Goals as goal

pub returns-in-Int : goal.returns-in-Int
returns-in-Int c = rw c.in-Int.is (found_as c.promoted_to.result (int_printed c.args.target c.args.v.now) (λ a h. printed h) c.promoted_to.ensures)

pub returns-in-Long : goal.returns-in-Long
returns-in-Long c = rw c.in-Long.is (found_as c.promoted_to-in-Long.result (prints_a_long c.args.target c.difference_type.result c.size_type.result c.difference_type.ensures c.size_type.ensures c.args.v.now) (long_is_promoted c.args.target c.difference_type.result c.size_type.result c.difference_type.ensures c.size_type.ensures c.args.v.now) c.promoted_to-in-Long.ensures)

pub returns-in-Size : goal.returns-in-Size
returns-in-Size c = rw c.in-Size.is (found_as c.promoted_to-in-Size.result (prints_a_size c.args.target c.difference_type-in-Size.result c.size_type-in-Size.result c.difference_type-in-Size.ensures c.size_type-in-Size.ensures c.args.v.now) (size_is_promoted c.args.target c.difference_type-in-Size.result c.size_type-in-Size.result c.difference_type-in-Size.ensures c.size_type-in-Size.ensures c.args.v.now) c.promoted_to-in-Size.ensures)

pub returns-in-Text : goal.returns-in-Text
returns-in-Text c = rw c.in-Text.is (if_ok-map c.text.result (λ o. found_as o (text_printed c.args.target c.args.v.now) (λ a h. printed h)) c.text.ensures)
