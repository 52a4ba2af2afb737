-- What spaces, line ends, numbers and names of cells are, in the texts of both kinds.
use Rattle.std.specs.Prelude.{◌≡◌, ◌≢◌, ◌⊎◌, ℕ, ◌^◌, ◌<◌, ◌≤◌, List, [], ◌∷◌, ◌++◌, Some, slice_get}
use Rattle.std.specs.Fmt.{decimal}

-- nothing but spaces
abbrev pub IsSpaces : List ℕ → Type 0
IsSpaces [] = Unit {0}
IsSpaces (b ∷ bs) = (b ≡ 32) × IsSpaces bs

-- a line feed, or a carriage return and a line feed
abbrev pub IsLineEnd : List ℕ → Type 0
IsLineEnd bytes = (bytes ≡ 10 ∷ []) ⊎ (bytes ≡ 13 ∷ 10 ∷ [])

abbrev pub IsBlank : List ℕ → Type 0
IsBlank bytes = (bytes ≡ 32 ∷ []) ⊎ IsLineEnd bytes

-- these blanks, one after another
abbrev pub AreBlanks : List (List ℕ) → List ℕ → Type 0
AreBlanks [] bytes = bytes ≡ []
AreBlanks (blank ∷ blanks) bytes = (rest : List ℕ) × (bytes ≡ blank ++ rest) × IsBlank blank × AreBlanks blanks rest

-- any number of spaces and line ends
abbrev pub IsGap : List ℕ → Type 0
IsGap bytes = (blanks : List (List ℕ)) × AreBlanks blanks bytes

-- spaces, a text of this kind, and spaces
abbrev pub IsPadded : (List ℕ → Type 0) → List ℕ → Type 0
IsPadded P bytes = (front : List ℕ) × (text : List ℕ) × (back : List ℕ) × (bytes ≡ front ++ (text ++ back)) × IsSpaces front × P text × IsSpaces back

-- the decimal digits of n, which is at most 2 ^ 53
abbrev pub IsNumber : ℕ → List ℕ → Type 0
IsNumber n bytes = (bytes ≡ decimal n) × (n ≤ 2 ^ 53)

-- c is the number of the first of the names that is this word
abbrev pub IsCell : List (List ℕ) → ℕ → List ℕ → Type 0
IsCell names c word = (slice_get names c ≡ Some word) × ((k : ℕ) → k < c → slice_get names k ≢ Some word)
