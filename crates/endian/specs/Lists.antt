-- The words of a list, lists of words that a rule gives, and sums over them.
-- Assumes nothing.
use Rattle.std.specs.Prelude.{List, [], ◌∷◌, ℕ, zero, suc, ◌+◌, get_or}

-- Word i of a list, counted from 0.
abbrev pub word_at : List ℕ → ℕ → ℕ
word_at list i = get_or list i 0

-- The n words that f gives from place i on.
unfoldable pub words_from : (ℕ → ℕ) → ℕ → ℕ → List ℕ
words_from f i zero = []
words_from f i (suc n) = f i ∷ words_from f (suc i) n

-- The list of n words whose word i is f i.
unfoldable pub words_of : (ℕ → ℕ) → ℕ → List ℕ
words_of f n = words_from f 0 n

-- The sum of f i over all i below n.
unfoldable pub sum_to : (ℕ → ℕ) → ℕ → ℕ
sum_to f zero = 0
sum_to f (suc n) = sum_to f n + f n
