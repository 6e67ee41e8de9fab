use Rattle.std.proofs.Common.{◌++◌, ◌∷◌, [], length, ap, ◌∙◌}
use Rattle.std.specs.Prelude.{map, flat_map}
use Rattle.po_lists.proofs.Results.{on_ok-map}
use Rattle.po_link.specs.Joined.{naming_of, joined_function, opaque_of}
use Rattle.po_link.proofs.Joining.{parts_more, functions_before, files_before, scope_is}
use Rattle.po_link.proofs.join.add_unit.Goals as goal

pub returns : goal.returns
returns c = λ units file at seen numbers parts.
    let before = c.args.parts.now in
    let scope = scope_is units file c.args.unit c.args.seen.now c.in_ok-scope.scope _ _ _ seen
    (c.in_ok-first.ensures ∙ c.len-2.ensures ∙ functions_before units file before parts) (c.in_ok-texts.ensures ∙ c.len-3.ensures ∙ ap length parts.texts)
    c.in_ok-scope.ensures.0 c.in_ok-scope.ensures.1 c.in_ok-scope.ensures.2 c.in_ok-scope.ensures.3 numbers in
    let file_is = c.in_ok-counted.ensures ∙ c.len.ensures ∙ files_before units file c.args.unit before at parts in
    on_ok-map c.join_functions.result (λ functions. parts_more units file c.args.unit before _ at
    (c.in_ok-push.ensures.ok ∙ ap (λ n. before.files ++ n ∷ []) c.in_ok-share.ensures)
    (c.in_ok-add_opaque.ensures ∙ ap (λ l. before.opaque ++ flat_map opaque_of l) c.as_slice.ensures)
    (functions ∙ ap (λ k. before.functions ++ map (joined_function (naming_of units file c.args.unit) k) c.args.unit.functions) file_is)
    (c.in_ok-add_texts.ensures ∙ ap (λ l. before.texts ++ l) c.as_slice-2.ensures) parts) (c.join_functions.ensures (naming_of units file c.args.unit) scope)
