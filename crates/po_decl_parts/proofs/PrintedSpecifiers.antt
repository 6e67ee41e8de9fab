-- A specifier that is read is well formed and printed, and one that is printed is read.
use Rattle.std.proofs.Common.{◌≡◌, ◌∙◌, ℕ, ◌≤◌, List, [], ◌∷◌, ◌++◌, map, Bool, false, cond, refl, sym, ap, subst, arith, codes}
use Rattle.std.specs.Prelude.{Option, Some, None}
use Rattle.po_tree.specs.declared.expression.Exp.{Exp}
use Rattle.po_tree.specs.declared.expression.Exp.TheOpen.{Specifier-F}
use Rattle.po_tree.specs.declared.expression.Specifier.{Specifier, fold-roll-Specifier}
use Rattle.po_tree.specs.declared.expression.Specifier.TheVariants as sp
use Rattle.po_tree.specs.Signs.{Sign, word, brace, brace_end, comma}
use Rattle.po_tree.specs.Printing.{flat, flat_specifier, optional, with_commas, in_braces, prints_enumerator, prints_exp, prints_specifier, prints_suffix, prints_declarator, prints_member, prints_param, prints_type}
use Rattle.po_tree.specs.Heights.{height, specifier_height, greatest, enumerator_height, rises_exp, rises_specifier, rises_suffix, rises_declarator, rises_member, rises_param, rises_type}
use Rattle.po_tree.specs.Layers.{flat_specifier-Word, flat_specifier-Named, flat_specifier-struct, flat_specifier-enum, specifier_height-Word, specifier_height-Named, specifier_height-struct, specifier_height-enum}
use Rattle.po_tree.specs.Expressions.{Typed, untyped, by_words, by_name}
use Rattle.po_tree.specs.Declarations as de
use Rattle.po_tree.specs.Declarations.{Specs, IsTag}
use Rattle.po_exp_parts.specs.Places.{Begins}
use Rattle.po_decl_parts.specs.Enumerators.{flat_enumerator, flat_enumerators, enumerators_height}
use Rattle.po_decl_parts.specs.Printed.{SpecifierPrinted, BeginsSpecifiers, HasMembers}
use Rattle.po_decl_parts.specs.Specifiers.{TagRead, no_tag, tagged, SpecifierStands, SpecifierRead, storage_class, inline_word, qualifier, type_word, typedef_name, struct_tag, enum_tag, enum_body}
use Rattle.po_decl_parts.proofs.Printed.{items_sound, items_complete, enclosed}

printed_items : (g : (List ℕ × Option Exp) → (List ℕ × Option (List Sign))) → ((name : List ℕ) → g (name, None) ≡ (name, None)) → ((name : List ℕ) (x : Exp) → g (name, Some x) ≡ (name, Some (flat x))) →
    (items : List (List ℕ × Option Exp)) → map prints_enumerator (map g items) ≡ map flat_enumerator items
printed_items g q r [] = refl
printed_items g q r ((name, None) ∷ items) = rw (q name, printed_items g q r items) refl
printed_items g q r ((name, Some x) ∷ items) = rw (r name x, printed_items g q r items) refl

high_items : (g : (List ℕ × Option Exp) → (List ℕ × Option ℕ)) → ((name : List ℕ) → g (name, None) ≡ (name, None)) → ((name : List ℕ) (x : Exp) → g (name, Some x) ≡ (name, Some (height x))) →
    (items : List (List ℕ × Option Exp)) → greatest (map enumerator_height (map g items)) ≡ enumerators_height items
high_items g q r [] = refl
high_items g q r ((name, None) ∷ items) = rw (q name, high_items g q r items) refl
high_items g q r ((name, Some x) ∷ items) = rw (r name x, high_items g q r items) refl

-- an enumeration's body
pub flat_specifier-body : (tag : Option (List ℕ)) (items : List (List ℕ × Option Exp)) (more : Bool) →
    flat_specifier (sp.Enum tag (Some items) more) ≡ word (codes "enum") ∷ (optional (λ name. word name ∷ []) tag ++ in_braces (flat_enumerators items more))
unfolding flat_specifier flat
flat_specifier-body tag items more =
    ap flat_specifier (sym (sp.rolls-Enum tag (Some items) more)) ∙
    fold-roll-Specifier _ _ _ _ _ _ _ prints_exp prints_specifier prints_suffix prints_declarator prints_member prints_param prints_type (Specifier-F.Enum tag (Some items) more) ∙
    ap (λ v. word (codes "enum") ∷ (optional (λ name. word name ∷ []) tag ++ in_braces (with_commas v ++ cond more (comma ∷ []) []))) (printed_items _ (λ name. refl) (λ name x. refl) items)

pub specifier_height-body : (tag : Option (List ℕ)) (items : List (List ℕ × Option Exp)) (more : Bool) → specifier_height (sp.Enum tag (Some items) more) ≡ enumerators_height items
unfolding specifier_height height
specifier_height-body tag items more =
    ap specifier_height (sym (sp.rolls-Enum tag (Some items) more)) ∙
    fold-roll-Specifier _ _ _ _ _ _ _ rises_exp rises_specifier rises_suffix rises_declarator rises_member rises_param rises_type (Specifier-F.Enum tag (Some items) more) ∙
    high_items _ (λ name. refl) (λ name x. refl) items

tag_is : {ts us : List Sign} {tag : Option (List ℕ)} → TagRead ts tag us → IsTag tag × (ts ≡ optional (λ name. word name ∷ []) tag ++ (brace ∷ us))
tag_is (no_tag us q) = (de.no_tag, q)
tag_is (tagged tag us is q) = (de.tagged tag is, q)

low_word : (spec : Specifier) → specifier_height spec ≡ 0 → specifier_height spec ≤ 256
low_word spec q = omega (arith, q)

pub specifier_sound : {outer free free' : Bool} {text : List ℕ} {ts us : List Sign} {types types' : List (List ℕ)} {seen seen' : Typed} {spec : Specifier} →
    SpecifierRead outer text ts free types seen spec free' types' seen' us → SpecifierPrinted outer free types seen (word text ∷ ts) spec free' types' seen' us
specifier_sound {outer = outer} {text = text} {ts = ts} (storage_class types seen h) = record {
  printed = sym (ap (λ v. v ++ ts) (flat_specifier-Word text));
  nested = low_word (sp.Word text) (specifier_height-Word text);
  before = λ rest last sort w. de.storage_class outer types last seen sort text rest h w;
}
specifier_sound {outer = outer} {text = text} {ts = ts} (inline_word free types seen q is) = record {
  printed = sym (ap (λ v. v ++ ts) (flat_specifier-Word text));
  nested = low_word (sp.Word text) (specifier_height-Word text);
  before = λ rest last sort w. subst (λ v. Specs outer free types seen (sp.Word v ∷ rest) last sort) (sym q) (de.inline_word outer free types last seen sort rest is w);
}
specifier_sound {outer = outer} {text = text} {ts = ts} (qualifier free types seen h) = record {
  printed = sym (ap (λ v. v ++ ts) (flat_specifier-Word text));
  nested = low_word (sp.Word text) (specifier_height-Word text);
  before = λ rest last sort w. de.qualifier outer free types last seen sort text rest h w;
}
specifier_sound {outer = outer} {text = text} {ts = ts} (type_word free types seen h t) = record {
  printed = sym (ap (λ v. v ++ ts) (flat_specifier-Word text));
  nested = low_word (sp.Word text) (specifier_height-Word text);
  before = λ rest last sort w. de.type_word outer free types last seen sort text rest h t w;
}
specifier_sound {outer = outer} {text = text} {ts = ts} (typedef_name free types is c) = record {
  printed = sym (ap (λ v. v ++ ts) (flat_specifier-Named text));
  nested = low_word (sp.Named text) (specifier_height-Named text);
  before = λ rest last sort w. de.typedef_name outer free types last sort text rest is c w;
}
specifier_sound {outer = outer} {ts = ts} (struct_tag free types tag us q is r none) = record {
  printed = ap (λ v. word v ∷ ts) q ∙ ap (λ v. word (codes "struct") ∷ v) r ∙ sym (ap (λ v. v ++ us) (flat_specifier-struct tag));
  nested = low_word (sp.Struct (Some tag) None) (specifier_height-struct tag);
  before = λ rest last sort w. de.struct_tag outer free types last sort tag rest is w;
}
specifier_sound {outer = outer} {ts = ts} (enum_tag free types tag us q is r none) = record {
  printed = ap (λ v. word v ∷ ts) q ∙ ap (λ v. word (codes "enum") ∷ v) r ∙ sym (ap (λ v. v ++ us) (flat_specifier-enum tag));
  nested = low_word (sp.Enum (Some tag) None false) (specifier_height-enum tag);
  before = λ rest last sort w. de.enum_tag outer free types last sort tag rest is w;
}
specifier_sound {outer = outer} {ts = ts} (enum_body free more types types' tag items us vs q w v) =
    let t = tag_is w in
    let r = items_sound v in
    let name : List Sign = optional (λ name. word name ∷ []) tag in
    let behind : name ++ (brace ∷ (flat_enumerators items more ++ (brace_end ∷ vs))) ≡ (name ++ in_braces (flat_enumerators items more)) ++ vs = enclosed name (flat_enumerators items more) vs brace brace_end in record {
      printed = ap (λ z. word z ∷ ts) q ∙ ap (λ z. word (codes "enum") ∷ z) (t.1 ∙ ap (λ z. name ++ (brace ∷ z)) r.printed ∙ behind) ∙ sym (ap (λ z. z ++ vs) (flat_specifier-body tag items more));
      nested = let h = specifier_height-body tag items more in omega (arith, h, r.nested);
      before = λ rest last sort z.
          subst (λ i. Specs outer free types untyped (sp.Enum tag (Some i) more ∷ rest) last sort) (sym r.parts)
          (de.enum_body outer free more types types' last sort tag r.first r.others rest t.0 (subst (λ i. de.Enumerators types i types') r.parts r.formed) z);
    }

pub specifier_printed : (outer free : Bool) (types : List (List ℕ)) (seen : Typed) (signs : List Sign) (spec : Specifier) (free' : Bool) (types' : List (List ℕ)) (seen' : Typed) (us : List Sign) →
    SpecifierStands outer free types seen signs spec free' types' seen' us → SpecifierPrinted outer free types seen signs spec free' types' seen' us
specifier_printed outer free types seen signs spec free' types' seen' us w =
    let p = specifier_sound w.reads in record { printed = w.first ∙ p.printed; nested = p.nested; before = p.before }

-- a tag is read before a brace
tag_reads : {tag : Option (List ℕ)} (us : List Sign) → IsTag tag → TagRead (optional (λ name. word name ∷ []) tag ++ (brace ∷ us)) tag us
tag_reads us de.no_tag = no_tag us refl
tag_reads us (de.tagged tag is) = tagged tag us is refl

-- the first of a declaration's specifiers is read where it is printed
pub specifier_complete : {outer free : Bool} {types last : List (List ℕ)} {seen sort : Typed} {signs : List Sign} {spec : Specifier} {rest : List Specifier} (us : List Sign) →
    Specs outer free types seen (spec ∷ rest) last sort → specifier_height spec ≤ 256 → signs ≡ flat_specifier spec ++ us → (Begins brace us → ⊥) → (HasMembers spec → ⊥) →
    BeginsSpecifiers outer free types seen signs spec us rest last sort
specifier_complete us (de.storage_class outer types types' seen seen' text rest h w) low q none wrong = record {
  free' = false;
  types' = types;
  seen' = seen;
  stands = record { text = text; behind = us; first = q ∙ ap (λ v. v ++ us) (flat_specifier-Word text); reads = storage_class types seen h };
  others = w;
}
specifier_complete us (de.inline_word outer free types types' seen seen' rest is w) low q none wrong = record {
  free' = free;
  types' = types;
  seen' = seen;
  stands = record { text = codes "inline"; behind = us; first = q ∙ ap (λ v. v ++ us) (flat_specifier-Word (codes "inline")); reads = inline_word free types seen refl is };
  others = w;
}
specifier_complete us (de.qualifier outer free types types' seen seen' text rest h w) low q none wrong = record {
  free' = free;
  types' = types;
  seen' = seen;
  stands = record { text = text; behind = us; first = q ∙ ap (λ v. v ++ us) (flat_specifier-Word text); reads = qualifier free types seen h };
  others = w;
}
specifier_complete us (de.type_word outer free types types' seen seen' text rest h t w) low q none wrong = record {
  free' = free;
  types' = types;
  seen' = by_words;
  stands = record { text = text; behind = us; first = q ∙ ap (λ v. v ++ us) (flat_specifier-Word text); reads = type_word free types seen h t };
  others = w;
}
specifier_complete us (de.typedef_name outer free types types' seen' name rest is c w) low q none wrong = record {
  free' = free;
  types' = types;
  seen' = by_name;
  stands = record { text = name; behind = us; first = q ∙ ap (λ v. v ++ us) (flat_specifier-Named name); reads = typedef_name free types is c };
  others = w;
}
specifier_complete us (de.struct_tag outer free types types' seen' tag rest is w) low q none wrong = record {
  free' = free;
  types' = types;
  seen' = by_name;
  stands = record { text = codes "struct"; behind = word tag ∷ us; first = q ∙ ap (λ v. v ++ us) (flat_specifier-struct tag); reads = struct_tag free types tag us refl is refl none };
  others = w;
}
specifier_complete us (de.struct_body outer free types inner types' seen' tag m ms rest is inside w) low q none wrong = absurd (wrong (tag, m ∷ ms, refl))
specifier_complete us (de.enum_tag outer free types types' seen' tag rest is w) low q none wrong = record {
  free' = free;
  types' = types;
  seen' = by_name;
  stands = record { text = codes "enum"; behind = word tag ∷ us; first = q ∙ ap (λ v. v ++ us) (flat_specifier-enum tag); reads = enum_tag free types tag us refl is refl none };
  others = w;
}
specifier_complete us (de.enum_body outer free more types inner types' seen' tag item items rest is inside w) low q none wrong =
    let name : List Sign = optional (λ name. word name ∷ []) tag in
    let body : List Sign = flat_enumerators (item ∷ items) more ++ (brace_end ∷ us) in
    let printed : (name ++ in_braces (flat_enumerators (item ∷ items) more)) ++ us ≡ name ++ (brace ∷ body) = sym (enclosed name (flat_enumerators (item ∷ items) more) us brace brace_end) in
    let h = specifier_height-body tag (item ∷ items) more in record {
      free' = free;
      types' = inner;
      seen' = by_name;
      stands = record {
        text = codes "enum";
        behind = name ++ (brace ∷ body);
        first = q ∙ ap (λ v. v ++ us) (flat_specifier-body tag (item ∷ items) more) ∙ ap (λ v. word (codes "enum") ∷ v) printed;
        reads = enum_body free more types inner tag (item ∷ items) body us refl (tag_reads body is) (items_complete us more inside (omega (arith, h, low)));
      };
      others = w;
    }
