-- How a type is spelled, by which types of two files are compared.
use Rattle.std.specs.Prelude.{ℕ, zero, suc, ◌≡◌, Bool, true, false, cond, List, [], ◌∷◌, ◌++◌, map, codes, get_or, Option, Some, None}
use Rattle.std.specs.Fmt.{decimal}
use Rattle.po_arith.specs.declared.int_type.IntType.{IntType}
use Rattle.po_types.specs.declared.ctype.CType.{CType}
use Rattle.po_types.specs.declared.ctype.CType.TheVariants as c
use Rattle.po_types.specs.declared.env.Env.{Env}

-- `i` or `u` and the bits
abbrev pub integer_text : IntType → List ℕ
integer_text t = cond t.signed (codes "i") (codes "u") ++ decimal t.bits

-- the size of an array in brackets, which may be missing
abbrev pub size_text : Option ℕ → List ℕ
size_text None = codes "[]"
size_text (Some n) = codes "[" ++ decimal n ++ codes "]"

-- the end of a list of parameters
abbrev pub end_text : Bool → List ℕ
end_text true = codes ",...)"
end_text false = codes ")"

abbrev pub comma_and : List ℕ → List ℕ
comma_and text = codes "," ++ text

mutual
  -- the type is spelled so: an untagged struct by its members, another one by its tag
  pub data Spelled (env : Env) : CType → List ℕ → Type 0 where
    void : Spelled env c.Void (codes "void")
    integer : (t : IntType) → Spelled env (c.Int t) (integer_text t)
    pointer : (t : CType) (text : List ℕ) → Spelled env t text → Spelled env (c.Ptr t) (codes "*" ++ text)
    array : (t : CType) (n : Option ℕ) (text : List ℕ) → Spelled env t text → Spelled env (c.Array t n) (size_text n ++ text)
    tagged : (n : ℕ) (tag : List ℕ) → get_or env.names n None ≡ Some tag → Spelled env (c.Struct n) (codes "struct " ++ tag)
    untagged : (n : ℕ) (text : List ℕ) → get_or env.names n None ≡ None → AllSpelled env (map (λ m. m.1) (get_or env.members n [])) text →
        Spelled env (c.Struct n) (codes "struct{" ++ text ++ codes "}")
    function : (t : CType) (params : List CType) (more : Bool) (list text : List ℕ) → AllSpelled env params list → Spelled env t text →
        Spelled env (c.Fun t params more) (codes "(" ++ list ++ end_text more ++ text)

  -- types side by side, with commas between them
  pub data AllSpelled (env : Env) : List CType → List ℕ → Type 0 where
    none : AllSpelled env [] []
    last : (t : CType) (text : List ℕ) → Spelled env t text → AllSpelled env (t ∷ []) text
    more : (t u : CType) (ts : List CType) (text rest : List ℕ) → Spelled env t text → AllSpelled env (u ∷ ts) rest →
        AllSpelled env (t ∷ u ∷ ts) (text ++ comma_and rest)

-- behind the text before stands a text of which R holds
abbrev pub Writes : (List ℕ → Type 0) → List ℕ → List ℕ → Type 0
Writes R before after = (text : List ℕ) × R text × (after ≡ before ++ text)

-- what stands before the item at this place of a list
abbrev pub separator : ℕ → List ℕ
separator zero = []
separator (suc i) = codes ","
