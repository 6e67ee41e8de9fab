use Rattle.std.proofs.Common.{ap, ◌∙◌}
use Rattle.std.specs.Prelude.{Some, None}
use Rattle.po_tree.specs.declared.expression.Specifier.TheVariants as sp
use Rattle.po_tree.specs.Gathering.{count_in}
use Rattle.po_tree.proofs.Results.{if_ok-map}
use Rattle.po_tree.proofs.Counts.{count_in-word, count_in-named, count_in-tag, count_in-enum}
use Rattle.po_tree.proofs.Gathered.{word_adds, named_adds, struct_tag_adds, enum_adds, enum_tag_adds}
use Rattle.po_tree.proofs.Waiting.{opens_plain, opens_body}
use Rattle.po_tree.proofs.names.gather_one.Goals as goal

pub returns-in-Word : goal.returns-in-Word
returns-in-Word c = opens_plain _ _ _ _ (ap count_in c.in-Word.is ∙ count_in-word c.in-Word.field-0) (word_adds c.in-Word.field-0 _ _ c.in-Word.is)

pub returns-in-Named : goal.returns-in-Named
returns-in-Named c = opens_plain _ _ _ _ (ap count_in c.in-Named.is ∙ count_in-named c.in-Named.field-0) (named_adds c.in-Named.field-0 _ _ c.in-Named.is)

pub returns-in-Some : goal.returns-in-Some
returns-in-Some c =
    let is = c.in-Struct.is ∙ ap (λ v. sp.Struct c.in-Struct.tag v) c.in-Some.is in
    if_ok-map c.wait_members.result (λ u w. opens_body c.in-Struct.tag c.in-Some.members _ _ _ _ _ is
    (rw c.as_slice.ensures at w) c.in_ok-add_tag-in-Struct.ensures) c.wait_members.ensures

pub returns-in-None : goal.returns-in-None
returns-in-None c =
    let is = c.in-Struct.is ∙ ap (λ v. sp.Struct c.in-Struct.tag v) c.in-None.is in
    opens_plain _ _ _ _ (ap count_in is ∙ count_in-tag c.in-Struct.tag) (struct_tag_adds c.in-Struct.tag _ _ _ is c.in_ok-add_tag-in-Struct.ensures)

pub returns-in-Some-items : goal.returns-in-Some-items
returns-in-Some-items c =
    let is = c.in-Enum.is ∙ ap (λ v. sp.Enum c.in-Enum.tag v c.in-Enum.field-2) c.in-Some-items.is in
    if_ok-map c.add_items.result (λ u m. opens_plain _ _ _ _ (ap count_in is ∙ count_in-enum c.in-Enum.tag (Some c.in-Some-items.items) c.in-Enum.field-2)
    (enum_adds c.in-Enum.tag c.in-Some-items.items c.in-Enum.field-2 _ _ _ _ is c.in_ok-add_tag-in-Enum.ensures (rw c.as_slice-in-Some-items.ensures at m))) c.add_items.ensures

pub returns-in-None-items : goal.returns-in-None-items
returns-in-None-items c =
    let is = c.in-Enum.is ∙ ap (λ v. sp.Enum c.in-Enum.tag v c.in-Enum.field-2) c.in-None-items.is in
    opens_plain _ _ _ _ (ap count_in is ∙ count_in-enum c.in-Enum.tag None c.in-Enum.field-2)
    (enum_tag_adds c.in-Enum.tag c.in-Enum.field-2 _ _ _ is c.in_ok-add_tag-in-Enum.ensures)
