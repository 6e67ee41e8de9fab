-- A project whose functions stand in its files has as many files as it lists.
use Rattle.std.proofs.Common.{◌≡◌, ℕ, ◌<◌, ◌≤◌, List, [], ◌∷◌, length, arith}
use Rattle.std.specs.Prelude.{All}
use Rattle.std.proofs.lemmas.List.Elements.{All-head, All-tail}
use Rattle.po_ir.specs.declared.project.Function.{Function}
use Rattle.po_ir.specs.declared.project.Project.{Project}
use Rattle.po_app.specs.Book.{most_files, files_of}
use Rattle.po_app.specs.Ranges.{IsSmallProject}

within : (n : ℕ) (fs : List Function) → All (λ f. f.file.0 < n) fs → most_files fs ≤ n
within n [] h = omega arith
within n (f ∷ fs) h =
    let here = All-head (λ g. g.file.0 < n) f fs h in
    let rest = within n fs (All-tail (λ g. g.file.0 < n) f fs h) in
    omega arith

pub all_files : (p : Project) → IsSmallProject p → files_of p ≡ length p.files
all_files p h = let named = within (length p.files) p.functions h.in_files in omega arith
