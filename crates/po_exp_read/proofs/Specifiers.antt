-- The words and stars of a type name that are read are those that it prints, and those that it prints are read.
use Rattle.std.proofs.Common.{◌≡◌, ℕ, List, [], ◌∷◌, ◌++◌, map, flat_map, Contains, All, ap, sym, ◌∙◌, refl, subst, append_assoc}
use Rattle.std.specs.Prelude.{Some, None, false}
use Rattle.std.proofs.lemmas.List.Elements.{All-head, All-tail}
use Rattle.po_tree.specs.declared.expression.Specifier.{Specifier}
use Rattle.po_tree.specs.declared.expression.Specifier.TheVariants as sp
use Rattle.po_tree.specs.Signs.{Sign, word, star}
use Rattle.po_tree.specs.Words.{qualifiers}
use Rattle.po_tree.specs.Printing.{flat_specifier, prints_star}
use Rattle.po_tree.specs.Layers.{flat_specifier-Word, flat_specifier-Named, flat_specifier-struct, flat_specifier-enum}
use Rattle.po_tree.specs.Expressions.{Typed, untyped, TypeSpecs, no_more_specs, qualifier, type_word, typedef_name, struct_tag, enum_tag}
use Rattle.po_exp_parts.specs.Places.{Begins, BeginsWord}
use Rattle.po_exp_parts.specs.Stars.{StarsRead, no_star, one_star}
use Rattle.po_exp_parts.proofs.Starred.{qualifier_word}
use Rattle.po_exp_parts.proofs.StarsPrinted.{words_complete}
use Rattle.po_exp_parts.specs.TypeWords.{SpecsRead, specs_end, qualifier as reads_qualifier, type_word as reads_type_word, typedef_name as reads_typedef_name, struct_tag as reads_struct_tag, enum_tag as reads_enum_tag}

-- a specifier that is printed before others
one_before : {front ts : List Sign} (us : List Sign) (spec : Specifier) (specs : List Specifier) → flat_specifier spec ≡ front →
    ts ≡ flat_map flat_specifier specs ++ us → front ++ ts ≡ flat_map flat_specifier (spec ∷ specs) ++ us
one_before {front = front} us spec specs q h =
    ap (λ v. front ++ v) h ∙ sym (append_assoc front (flat_map flat_specifier specs) us) ∙ ap (λ v. (v ++ flat_map flat_specifier specs) ++ us) (sym q)

-- the specifiers that are read may stand in a type name, and are printed as what was read
pub specs_sound : {types : List (List ℕ)} {seen : Typed} {ts us : List Sign} {specs : List Specifier} → SpecsRead types seen ts specs us →
    TypeSpecs types seen specs × (ts ≡ flat_map flat_specifier specs ++ us)
specs_sound (specs_end seen ts ends) = (no_more_specs seen, refl)
specs_sound (reads_qualifier seen text rest ts us is read) =
    let p = specs_sound read in
    (qualifier seen text rest is p.0, one_before us (sp.Word text) rest (flat_specifier-Word text) p.1)
specs_sound (reads_type_word seen text rest ts us is takes read) =
    let p = specs_sound read in
    (type_word seen text rest is takes p.0, one_before us (sp.Word text) rest (flat_specifier-Word text) p.1)
specs_sound (reads_typedef_name name rest ts us is known read) =
    let p = specs_sound read in
    (typedef_name name rest is known p.0, one_before us (sp.Named name) rest (flat_specifier-Named name) p.1)
specs_sound (reads_struct_tag tag rest ts us is read) =
    let p = specs_sound read in
    (struct_tag tag rest is p.0, one_before us (sp.Struct (Some tag) None) rest (flat_specifier-struct tag) p.1)
specs_sound (reads_enum_tag tag rest ts us is read) =
    let p = specs_sound read in
    (enum_tag tag rest is p.0, one_before us (sp.Enum (Some tag) None false) rest (flat_specifier-enum tag) p.1)

-- specifiers that may stand in a type name are read where they are printed and no word follows them
pub specs_complete : {types : List (List ℕ)} {seen : Typed} {specs : List Specifier} (rest : List Sign) → TypeSpecs types seen specs → (BeginsWord rest → ⊥) →
    SpecsRead types seen (flat_map flat_specifier specs ++ rest) specs rest
specs_complete rest (no_more_specs seen) ends = specs_end seen rest ends
specs_complete {types = types} rest (qualifier seen text specs is w) ends =
    subst (λ v. SpecsRead types seen v (sp.Word text ∷ specs) rest) (one_before rest (sp.Word text) specs (flat_specifier-Word text) refl)
    (reads_qualifier seen text specs _ rest is (specs_complete rest w ends))
specs_complete {types = types} rest (type_word seen text specs is takes w) ends =
    subst (λ v. SpecsRead types seen v (sp.Word text ∷ specs) rest) (one_before rest (sp.Word text) specs (flat_specifier-Word text) refl)
    (reads_type_word seen text specs _ rest is takes (specs_complete rest w ends))
specs_complete {types = types} rest (typedef_name name specs is known w) ends =
    subst (λ v. SpecsRead types untyped v (sp.Named name ∷ specs) rest) (one_before rest (sp.Named name) specs (flat_specifier-Named name) refl)
    (reads_typedef_name name specs _ rest is known (specs_complete rest w ends))
specs_complete {types = types} rest (struct_tag tag specs is w) ends =
    subst (λ v. SpecsRead types untyped v (sp.Struct (Some tag) None ∷ specs) rest) (one_before rest (sp.Struct (Some tag) None) specs (flat_specifier-struct tag) refl)
    (reads_struct_tag tag specs _ rest is (specs_complete rest w ends))
specs_complete {types = types} rest (enum_tag tag specs is w) ends =
    subst (λ v. SpecsRead types untyped v (sp.Enum (Some tag) None false ∷ specs) rest) (one_before rest (sp.Enum (Some tag) None false) specs (flat_specifier-enum tag) refl)
    (reads_enum_tag tag specs _ rest is (specs_complete rest w ends))

-- stars begin with no word
pub stars_begin : (stars : List (List (List ℕ))) (rest : List Sign) → (BeginsWord rest → ⊥) → BeginsWord (flat_map prints_star stars ++ rest) → ⊥
stars_begin [] rest ends q = ends q
stars_begin (words ∷ stars) rest ends q = cc

-- stars are read where they are printed, and neither a word nor a star follows them
pub stars_complete : (stars : List (List (List ℕ))) (rest : List Sign) → All (All (Contains qualifiers)) stars → (BeginsWord rest → ⊥) → (Begins star rest → ⊥) →
    StarsRead (flat_map prints_star stars ++ rest) stars rest
stars_complete [] rest all ends last = no_star rest last
stars_complete (words ∷ stars) rest all ends last =
    let us : List Sign = flat_map prints_star stars ++ rest in
    let these = All-head (All (Contains qualifiers)) words stars all in
    let those = All-tail (All (Contains qualifiers)) words stars all in
    subst (λ v. StarsRead (star ∷ v) (words ∷ stars) rest) (sym (append_assoc (map word words) (flat_map prints_star stars) rest))
    (one_star words stars _ us rest (words_complete words us these (λ b. stars_begin stars rest ends (qualifier_word us b))) (stars_complete stars rest those ends last))
