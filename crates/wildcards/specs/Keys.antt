-- What a path needs to be matched by a pattern: only private contracts name this.
use Rattle.std.specs.Prelude.{◌≡◌, ◌⊎◌, ◌<◌, Bool, true, false, ℕ, zero, suc, List, [], ◌∷◌, ◌++◌, length, take}
use Rattle.std.specs.List.{AllByRecursion, join_with_byte}
use Rattle.wildcards.specs.declared.options.Options.{Options}
use Rattle.wildcards.specs.declared.separators.Separators.{Separators}
use Rattle.wildcards.specs.declared.separators.Separators.TheVariants as separators
use Rattle.wildcards.specs.declared.key.Kind.{Kind}
use Rattle.wildcards.specs.declared.key.Kind.TheVariants as kind
use Rattle.wildcards.specs.declared.part.Part.{Part}
use Rattle.wildcards.specs.declared.piece.Item.{Item}
use Rattle.wildcards.specs.declared.piece.Item.TheVariants.{Literal}
use Rattle.wildcards.specs.declared.piece.Piece.{Piece}
use Rattle.wildcards.specs.declared.piece.Piece.TheVariants.{Many, One}
use Rattle.wildcards.specs.Components.{components}
use Rattle.wildcards.specs.Cuts.{IsPlain}
use Rattle.wildcards.specs.Extensions.{LacksDot}
use Rattle.wildcards.specs.Literals.{spells}
use Rattle.wildcards.specs.Match.{Matches}

-- a path is its components joined by `/`
abbrev pub joins_by_slash : Separators → Bool
joins_by_slash separators.None = true
joins_by_slash separators.Slash = true
joins_by_slash separators.SlashAndBackslash = false

-- what separates the components that are looked up: a path that is one component has those between `/`
abbrev pub key_separators : Separators → Separators
key_separators separators.None = separators.Slash
key_separators separators.Slash = separators.Slash
key_separators separators.SlashAndBackslash = separators.SlashAndBackslash

-- what comes before a text, unless it is the first
abbrev pub slash_before : Bool → List ℕ
slash_before true = []
slash_before false = 0x2F ∷ []

-- the last of the components
abbrev pub EndsIn : List (List ℕ) → List ℕ → Type 0
EndsIn parts last = (before : List (List ℕ)) × (parts ≡ before ++ last ∷ [])

-- one of the components
abbrev pub HasPart : List (List ℕ) → List ℕ → Type 0
HasPart parts part = (before : List (List ℕ)) × ((after : List (List ℕ)) × (parts ≡ before ++ part ∷ after))

-- the first letters of a component, as many as the size; all of them for 0
abbrev pub first_letters : ℕ → List ℕ → List ℕ
first_letters zero component = component
first_letters (suc n) component = take (suc n) component

-- the letters before the rest have the size; for 0 they are all
abbrev pub HaveSize : ℕ → List ℕ → List ℕ → Type 0
HaveSize zero key rest = rest ≡ []
HaveSize (suc n) key rest = length key ≡ suc n

-- the path has the key of this kind and size
abbrev pub HasKey : Options → Kind → ℕ → List ℕ → List ℕ → Type 0
HasKey o kind.Path n path key = path ≡ key
HasKey o kind.Component n path key = (rest : List ℕ) × (HasPart (components (key_separators o.separators) path) (key ++ rest) × HaveSize n key rest)
HasKey o kind.Name n path key = (rest : List ℕ) × (EndsIn (components o.separators path) (key ++ rest) × HaveSize n key rest)
HasKey o kind.Extension n path key = LacksDot key × ((start : List ℕ) × EndsIn (components o.separators path) (start ++ 0x2E ∷ key))
HasKey o kind.End n path key = (length key ≡ n) × ((start : List ℕ) × EndsIn (components o.separators path) (start ++ key))

-- a component that ends with the text has the key
abbrev pub IsOfEnd : List ℕ → Kind → ℕ → List ℕ → Type 0
IsOfEnd text kind.Path n key = ⊥
IsOfEnd text kind.Component n key = ⊥
IsOfEnd text kind.Name n key = ⊥
IsOfEnd text kind.Extension n key = LacksDot key × (text ≡ 0x2E ∷ key)
IsOfEnd text kind.End n key = (length key ≡ n) × ((before : List ℕ) × (text ≡ before ++ key))

module _ {A : Type 0} where
  -- each path that the pieces match has the key, which is ASCII
  pub record IsNeeded (o : Options) (pieces : List (Piece (Part A))) (k : Kind) (n : ℕ) (key : List ℕ) : Type 0 where
    pub ascii : AllByRecursion (λ b. b < 0x80) key
    pub needed : (path : List ℕ) → Matches o pieces path → HasKey o k n path key

  -- the last component of each path that the pieces match ends with the text, which is ASCII
  pub record EndsWith (o : Options) (pieces : List (Piece (Part A))) (text : List ℕ) : Type 0 where
    pub ascii : AllByRecursion (λ b. b < 0x80) text
    pub needed : (path : List ℕ) → Matches o pieces path → (start : List ℕ) × EndsIn (components o.separators path) (start ++ text)

  -- the pieces begin with literals, of this text
  pub record BeginWith (pieces : List (Piece (Item A))) (text : List ℕ) : Type 0 where
    pub own : List (Piece (Item A))
    pub after : List (Piece (Item A))
    pub joined : pieces ≡ own ++ after
    pub spelled : spells own text ≡ true

  -- the letters of this size with which the part begins; for 0 they are all
  abbrev pub AreOfPart : Part A → ℕ → List ℕ → Type 0
  AreOfPart part zero text = spells part.pieces.items text ≡ true
  AreOfPart part (suc n) text = (length text ≡ suc n) × BeginWith part.pieces.items text

  -- the pieces are at the start, or after a `/`
  abbrev pub BeginsAt : List (Piece (Item A)) → List (Piece (Item A)) → Type 0
  BeginsAt pieces rest = (pieces ≡ rest) ⊎ ((before : List (Piece (Item A))) × (pieces ≡ before ++ One (Literal 0x2F) ∷ rest))

  -- the text is literal, between `/`, or between the start and a `/`
  pub record IsBetween (pieces : List (Piece (Item A))) (text : List ℕ) : Type 0 where
    pub own : List (Piece (Item A))
    pub after : List (Piece (Item A))
    pub begins : BeginsAt pieces (own ++ One (Literal 0x2F) ∷ after)
    pub spelled : spells own text ≡ true
    pub plain : IsPlain separators.Slash text

  -- the parts are these texts
  abbrev pub AreTexts : List (Piece (Part A)) → List (List ℕ) → Type 0
  AreTexts [] [] = Unit {0}
  AreTexts [] (t ∷ ts) = ⊥
  AreTexts (Many ∷ ps) ts = ⊥
  AreTexts (One part ∷ ps) [] = ⊥
  AreTexts (One part ∷ ps) (t ∷ ts) = (spells part.pieces.items t ≡ true) × AreTexts ps ts

  -- the parts are texts, which are joined by `/`
  abbrev pub AreJoinedTexts : List (Piece (Part A)) → List ℕ → Type 0
  AreJoinedTexts ps text = (ts : List (List ℕ)) × (AreTexts ps ts × (text ≡ join_with_byte 0x2F ts))
