-- Files are joined to one project, whose functions stand by file and place.
use Rattle.std.proofs.Common.{◌≡◌, ℕ, zero, suc, ◌+◌, ◌<◌, List, [], ◌∷◌, ◌++◌, length, take, refl, ap, sym, ◌∙◌, arith}
use Rattle.std.specs.Prelude.{Some, flat_map, slice_get, option_map}
use Rattle.std.proofs.lemmas.List.{length-append, length-map}
use Rattle.std.proofs.lemmas.Option.{same_Some, slice_get_within, slice_get-map}
use Rattle.po_lists.proofs.Places.{first_at, second_at}
use Rattle.po_ir.specs.declared.project.Function.{Function}
use Rattle.po_ir.specs.declared.project.Project.{Project}
use Rattle.po_ir.specs.declared.unit.Unit.{Unit as FileUnit}
use Rattle.po_ir.specs.General.{each_from}
use Rattle.po_link.specs.Joined.{functions_of, naming_of, joined_function, joined_functions, named_effects, OneProject, StandsByFile}
use Rattle.po_link.proofs.Carried.{carried_effects, one_effects}

same_project : (p q : Project) → p.files ≡ q.files → p.opaque ≡ q.opaque → p.functions ≡ q.functions → p.globals ≡ q.globals → p.texts ≡ q.texts → p.effects ≡ q.effects → p.target ≡ q.target → p ≡ q
same_project p q files opaque functions globals texts effects target =
    ap (λ x. record { files = x; opaque = p.opaque; functions = p.functions; globals = p.globals; texts = p.texts; effects = p.effects; target = p.target }) files
    ∙ ap (λ x. record { files = q.files; opaque = x; functions = p.functions; globals = p.globals; texts = p.texts; effects = p.effects; target = p.target }) opaque
    ∙ ap (λ x. record { files = q.files; opaque = q.opaque; functions = x; globals = p.globals; texts = p.texts; effects = p.effects; target = p.target }) functions
    ∙ ap (λ x. record { files = q.files; opaque = q.opaque; functions = q.functions; globals = x; texts = p.texts; effects = p.effects; target = p.target }) globals
    ∙ ap (λ x. record { files = q.files; opaque = q.opaque; functions = q.functions; globals = q.globals; texts = x; effects = p.effects; target = p.target }) texts
    ∙ ap (λ x. record { files = q.files; opaque = q.opaque; functions = q.functions; globals = q.globals; texts = q.texts; effects = x; target = p.target }) effects
    ∙ ap (λ x. record { files = q.files; opaque = q.opaque; functions = q.functions; globals = q.globals; texts = q.texts; effects = q.effects; target = x }) target

pub one_project : OneProject
one_project units target p q h k =
    let a = h.joined_parts in
    let b = k.joined_parts in
    let functions : p.functions ≡ q.functions = a.functions ∙ sym b.functions in
    same_project p q (a.files ∙ sym b.files) (a.opaque ∙ sym b.opaque) functions (a.globals ∙ sym b.globals) (a.texts ∙ sym b.texts)
    (one_effects q (named_effects units) p.effects q.effects (carried_effects p q (named_effects units) (named_effects units) p.effects functions (λ lib. refl) h.effects) k.effects)
    (a.target_is ∙ sym b.target_is)

stands : (units : List FileUnit) (n : ℕ) (xs : List FileUnit) (i place : ℕ) (u : FileUnit) (f : Function) → slice_get xs i ≡ Some u → slice_get u.functions place ≡ Some f →
    slice_get (each_from (joined_functions units) n xs) (length (flat_map functions_of (take i xs)) + place) ≡ Some (joined_function (naming_of units (n + i) u) (n + i) f)
stands units n [] i place u f at here = absurd (cc)
stands units n (x ∷ xs) zero place u f at here =
    let same : x ≡ u = same_Some x u at in
    let none : 0 + place ≡ place = omega arith in
    let e : n ≡ n + 0 = omega arith in
    let below : place < length (joined_functions units n u) = (let l = slice_get_within u.functions place f here in let m = length-map u.functions (joined_function (naming_of units n u) n) in omega arith) in
    ap (λ y. slice_get (joined_functions units n y ++ each_from (joined_functions units) (n + 1) xs) (0 + place)) same ∙ ap (slice_get (joined_functions units n u ++ each_from (joined_functions units) (n + 1) xs)) none
    ∙ first_at (joined_functions units n u) _ place below ∙ slice_get-map (joined_function (naming_of units n u) n) u.functions place ∙ ap (option_map (joined_function (naming_of units n u) n)) here
    ∙ ap (λ k. Some (joined_function (naming_of units k u) k f)) e
stands units n (x ∷ xs) (suc i) place u f at here =
    let e : (n + 1) + i ≡ n + suc i = omega arith in
    let front : length (joined_functions units n x) ≡ length (functions_of x) = length-map (functions_of x) (joined_function (naming_of units n x) n) in
    let total = length-append (functions_of x) (flat_map functions_of (take i xs)) in
    let place_is : length (functions_of x ++ flat_map functions_of (take i xs)) + place ≡ length (joined_functions units n x) + (length (flat_map functions_of (take i xs)) + place) = omega arith in
    ap (slice_get (joined_functions units n x ++ each_from (joined_functions units) (n + 1) xs)) place_is
    ∙ second_at (joined_functions units n x) (each_from (joined_functions units) (n + 1) xs) _ (length (flat_map functions_of (take i xs)) + place) refl
    ∙ stands units (n + 1) xs i place u f at here ∙ ap (λ k. Some (joined_function (naming_of units k u) k f)) e

pub stands_by_file : StandsByFile
stands_by_file units target p h file place u f at here =
    let e : 0 + file ≡ file = omega arith in
    ap (λ l. slice_get l (length (flat_map functions_of (take file units)) + place)) h.joined_parts.functions ∙ stands units 0 units file place u f at here
    ∙ ap (λ k. Some (joined_function (naming_of units k u) k f)) e
