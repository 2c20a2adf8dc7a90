-- Optional results of a given number of words, and one after the other, for the definitions of lines.
use Rattle.std.specs.Prelude.{Option, Some, None, List, [], ◌∷◌}

-- the second result, if there is a first one
infixl 10 ◌>>=◌
abbrev pub ◌>>=◌ : {A B : Type 0} → Option A → (A → Option B) → Option B
None >>= f = None
(Some x) >>= f = f x

-- a result of no words, and none of any
abbrev pub zero_words : {W B : Type 0} → B → List W → Option B
zero_words x [] = Some x
zero_words x ws = None

-- a result of one word, and none of another number of them
abbrev pub one : {W B : Type 0} → (W → Option B) → List W → Option B
one f (a ∷ []) = f a
one f ws = None

-- a result of two words
abbrev pub two : {W B : Type 0} → (W → W → Option B) → List W → Option B
two f (a ∷ b ∷ []) = f a b
two f ws = None

-- a result of three words
abbrev pub three : {W B : Type 0} → (W → W → W → Option B) → List W → Option B
three f (a ∷ b ∷ c ∷ []) = f a b c
three f ws = None

-- a result of four words
abbrev pub four : {W B : Type 0} → (W → W → W → W → Option B) → List W → Option B
four f (a ∷ b ∷ c ∷ d ∷ []) = f a b c d
four f ws = None

-- a result of five words
abbrev pub five : {W B : Type 0} → (W → W → W → W → W → Option B) → List W → Option B
five f (a ∷ b ∷ c ∷ d ∷ e ∷ []) = f a b c d e
five f ws = None
