-- What makes one token ahead enough, or two.
use Rattle.std.specs.Prelude.{◌≡◌, ℕ, ◌<◌, Bool, true, false, [], ◌∷◌}
use Rattle.rs_tree.specs.Kinds.{code}
use Rattle.rs_grammar.specs.Lexeme.{Lexeme}
use Rattle.rs_grammar.specs.Grammar.{Rule, Shape, Pair, one, Grammar, Tok, Empty, Seq, Alt, Opt, Rep, Tail, Ahead, Here, Nt, rule, IsFront}
use Rattle.rs_grammar.specs.Sets.{kinds, has, begin_of, more_of, empty_of, short_of, pair_of, nullable, first, short, more, pair}

abbrev pub Within : (ℕ → Bool) → (ℕ → Bool) → Type 0
Within p q = (k : ℕ) → k < kinds → p k ≡ true → q k ≡ true

abbrev pub Apart : (ℕ → Bool) → (ℕ → Bool) → Type 0
Apart p q = (k : ℕ) → k < kinds → p k ≡ true → q k ≡ false

abbrev pub Fine : {s : Shape} → Grammar s → Type 0
Fine (Tok c) = Unit {0}
Fine Empty = Unit {0}
Fine (Seq g h) = Apart (first h) (more g) × Fine g × Fine h
Fine (Alt g h) = (nullable g ≡ false) × (nullable h ≡ false) × Apart (first h) (first g) × Fine g × Fine h
Fine (Opt g) = (nullable g ≡ false) × Fine g
Fine (Rep g) = (nullable g ≡ false) × Apart (first g) (more g) × Fine g
Fine (Tail c g h) = (nullable g ≡ false) × (more g (code c) ≡ false) × Apart (first h) (first g) × Fine g × Fine h
Fine (Ahead p g h) = (nullable h ≡ false) × (pair p h ≡ false) × ((t : Lexeme) → code t.kind ≡ code (one p) → IsFront _ h (t ∷ [])) × Fine g × Fine h
Fine (Here g) = (nullable g ≡ false) × Fine g
Fine (Nt n) = Unit {0}

pub record IsFine (n : Rule) : Type 0 where
  pub begins : Within (first (rule n)) (λ k. has k (begin_of n))
  pub goes_on : Within (more (rule n)) (λ k. has k (more_of n))
  pub empties : nullable (rule n) ≡ true → empty_of n ≡ true
  pub shorts : short (rule n) ≡ true → short_of n ≡ true
  pub pairs : (p : Pair) → pair p (rule n) ≡ true → pair_of p n ≡ true
  pub parts : Fine (rule n)
