use Rattle.std.proofs.Common.{◌∙◌, sym, ap}
use Rattle.po_app.specs.Book.{files_of}
use Rattle.po_app.proofs.Files.{all_files}
use Rattle.po_app.proofs.book.ProjectBookRulebook.files.Goals as goal

pub returns : goal.returns
returns c = c.len.ensures ∙ (sym (all_files _ c.self.invariant.small) ∙ ap files_of c.self.view_is)
