-- Document 01, 'Taking a record': "an accepted record adds w·aᵢ·aⱼ to each matrix sum, w·aᵢ·R to each right side"; "The state holds the packed
-- upper triangle by columns (source document 003: b11, b12, b22, b13, ..)". The terms of one record, as lists of whole numbers.
use Rattle.std.specs.Prelude.{List, [], ◌++◌, map, ℕ, zero, suc, ◌+◌, ℤ, pos, ◌*ℤ◌, get_or, take, length}

-- each number times f
abbrev pub times : ℤ → List ℤ → List ℤ
times f xs = map (λ x. f *ℤ x) xs

-- the columns of the upper triangle from the jth on, n of them: column j has the products of a's numbers up to the jth, each with the jth and with w
unfoldable pub columns : ℤ → List ℤ → ℕ → ℕ → List ℤ
columns w a j zero = []
columns w a j (suc n) = times (w *ℤ get_or a j (pos 0)) (take (suc j) a) ++ columns w a (suc j) n

-- the whole triangle
abbrev pub triangle_terms : ℤ → List ℤ → List ℤ
triangle_terms w a = columns w a 0 (length a)

-- how many numbers the first j columns have
unfoldable pub tri : ℕ → ℕ
tri zero = 0
tri (suc j) = tri j + suc j
