use Rattle.std.proofs.Common.{◌≡◌, string_bytes, sym, subst, codes, refl}
use Rattle.std.proofs.lemmas.Slice.Eq.{bytes_eq-Decides}
use Rattle.po_app.specs.Command.{IsFileName}
use Rattle.po_app.proofs.Pairs.{pair_of, words_are}
use Rattle.po_app.proofs.words.file_to_check.Goals as goal

pub returns-then-is_file_name-clause-found : goal.returns-then-is_file_name-clause-found
returns-then-is_file_name-clause-found c =
    let two = pair_of _ c.command-item.result c.file-item.result c.in-len2.len_at_least c.in-len2.len_below c.command-item.is c.file-item.is in
    let command : c.as_str.result.now ≡ codes "check" = (bytes_eq-Decides c.as_str.result.now (codes "check")).0 (sym c.if-eq.ensures) in
    let named : IsFileName c.as_str-file.result.now = subst IsFileName c.as_bytes.ensures.value (c.if-is_file_name.ensures.0 refl) in
    (words_are string_bytes c.args.words.now.items _ _ _ _ _ _ c.as_slice.ensures.value two c.as_str.ensures.value c.as_str-file.ensures.value command, named)
