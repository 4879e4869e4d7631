-- Grammars as data: what a rule is, which tokens are a text of it, with which tokens a text of it begins, and how it is
-- read with one token ahead.
use Rattle.std.specs.Prelude.{◌≡◌, ◌≤◌, ℕ, zero, suc, Bool, true, false, not, ◌&&◌, ◌||◌, nat_lt, if◌then◌else◌, List, [], ◌∷◌, ◌++◌, length, take, drop, ◌⊎◌, Option, Some, None, Result, Ok, Err}
use Rattle.std.specs.List.{list_all, list_any}
use Rattle.sql_grammar.specs.declared.kind.Kind.{Kind}
use Rattle.sql_grammar.specs.declared.kind.Kind.TheVariants.{Comma}
use Rattle.sql_grammar.specs.Kinds.{same_kind}

-- Rules

-- a token as a grammar sees it: its kind, and its bytes
pub record Tok : Type 0 where
  pub kind : Kind
  pub text : List ℕ

-- a rule, whose texts give values of this type
pub data G : Type 0 → Type 1 where
  -- one token of this kind; the value is its bytes
  tok : Kind → G (List ℕ)
  -- no token; the value is this one
  pure : {A : Type 0} → A → G A
  -- a text of the first rule and then one of the second, with both values
  seq : {A B : Type 0} → G A → G B → G (A × B)
  -- a text of either rule
  alt : {A : Type 0} → G A → G A → G A
  -- a text of the rule; the value is the function's of its value
  map : {A B : Type 0} → (A → B) → G A → G B
  -- one token of this kind, whose bytes nobody keeps, and then a text of the rule
  skip : {A : Type 0} → Kind → G A → G A
  -- a text of the first rule and then any number of texts of the second; the values are joined from the left
  chain : {A B : Type 0} → (A → B → A) → G A → G B → G A
  -- a text of the rule, where the flag is true. Where it is false, no token can follow here
  guard : {A : Type 0} → Bool → G A → G A
  -- no text: what stands past the last level of nesting
  never : {A : Type 0} → G A
  -- a text of the rule of at most so many tokens
  limit : {A : Type 0} → ℕ → G A → G A
  -- a text of the rule. Says that after a text of it only these kinds can go on with it
  note : {A : Type 0} → List Kind → G A → G A

-- one token of this kind, whatever its bytes, for this value
abbrev pub is : {A : Type 0} → Kind → A → G A
is k a = map (λ t. a) (tok k)

-- a text of the rule or none
abbrev pub opt : {A : Type 0} → G A → G (Option A)
opt g = alt (map (λ x. Some x) g) (pure None)

-- a list with one more at its end
abbrev pub joined : {A : Type 0} → List A → A → List A
joined xs x = xs ++ x ∷ []

-- one or more texts of the rule, with commas between them
abbrev pub listed : {A : Type 0} → G A → G (List A)
listed g = chain joined (map (λ x. x ∷ []) g) (skip Comma g)

-- Texts

-- which tokens are a text, and of which value
abbrev pub Lang : Type 0 → Type 1
Lang A = List Tok → A → Type 0

-- a text of the first, and behind it one of the second, which may depend on the first's value
pub record Joined {A B : Type 0} (L : Lang A) (M : A → Lang B) (ts : List Tok) (y : B) : Type 0 where
  pub prefix : List Tok
  pub back : List Tok
  pub value : A
  pub parts : ts ≡ prefix ++ back
  pub is_first : L prefix value
  pub is_then : M value back y

-- one token of this kind, with these bytes
abbrev pub IsTok : Kind → Lang (List ℕ)
IsTok k ts text = ts ≡ record { kind = k; text = text } ∷ []

-- texts with these values, one behind another
abbrev pub Repetition : {B : Type 0} → Lang B → List B → List Tok → Type 0
Repetition L [] ts = ts ≡ []
Repetition L (b ∷ bs) ts = (prefix : List Tok) × (back : List Tok) × (ts ≡ prefix ++ back) × L prefix b × Repetition L bs back

-- a value, with more values joined to it from the left
abbrev pub folded : {A B : Type 0} → (A → B → A) → A → List B → A
folded f a [] = a
folded f a (b ∷ bs) = folded f (f a b) bs

-- any number of texts; their values are joined to a value from the left
abbrev pub Loop : {A B : Type 0} → (A → B → A) → Lang B → A → Lang A
Loop f L a ts x = (bs : List _) × Repetition L bs ts × (x ≡ folded f a bs)

-- the tokens are a text of the rule, and this is its value
abbrev pub Derives : {A : Type 0} → G A → Lang A
Derives (tok k) ts x = IsTok k ts x
Derives (pure a) ts x = (ts ≡ []) × (x ≡ a)
Derives (seq g h) ts x = Joined (Derives g) (λ a us y. (y.0 ≡ a) × Derives h us y.1) ts x
Derives (alt g h) ts x = Derives g ts x ⊎ Derives h ts x
Derives (map f g) ts x = (a : _) × Derives g ts a × (x ≡ f a)
Derives (skip k g) ts x = Joined (IsTok k) (λ a. Derives g) ts x
Derives (chain f g h) ts x = Joined (Derives g) (Loop f (Derives h)) ts x
Derives (guard b g) ts x = Derives g ts x × (b ≡ true)
Derives never ts x = ⊥
Derives (limit n g) ts x = Derives g ts x × (length ts ≤ n)
Derives (note ks g) ts x = Derives g ts x

-- Prefixes of texts

-- any number of texts, and then tokens with which a further one begins
abbrev pub RepetitionStarts : {B : Type 0} → Lang B → (List Tok → Type 0) → List Tok → Type 0
RepetitionStarts L S ts = (bs : List _) × Joined {B = Unit {0}} (λ us (v : Unit {0}). Repetition L bs us) (λ v us w. S us) ts tt

-- with these tokens a text of the rule begins, and they aren't all of it. A limit counts for the tokens that are there:
-- what would only have to come past it still begins a text
abbrev pub Starts : {A : Type 0} → G A → List Tok → Type 0
Starts (tok k) ts = ts ≡ []
Starts (pure a) ts = ⊥
Starts (seq g h) ts = Starts g ts ⊎ Joined {B = Unit {0}} (Derives g) (λ a us u. Starts h us) ts tt
Starts (alt g h) ts = Starts g ts ⊎ Starts h ts
Starts (map f g) ts = Starts g ts
Starts (skip k g) ts = (ts ≡ []) ⊎ Joined {B = Unit {0}} (IsTok k) (λ a us u. Starts g us) ts tt
Starts (chain f g h) ts = Starts g ts ⊎ Joined {B = Unit {0}} (Derives g) (λ a us u. RepetitionStarts (Derives h) (Starts h) us) ts tt
Starts (guard b g) ts = (Starts g ts × (b ≡ true)) ⊎ (ts ≡ [])
Starts never ts = ts ≡ []
Starts (limit n g) ts = Starts g ts × (length ts ≤ n)
Starts (note ks g) ts = Starts g ts

-- the tokens are a text of the rule, or a text of it begins with them
abbrev pub IsPrefix : {A : Type 0} → G A → List Tok → Type 0
IsPrefix g ts = Starts g ts ⊎ ((x : _) × Derives g ts x)

-- Reading with one token ahead

-- the value and the tokens behind the text, or the tokens from the first one on that doesn't go on with the rule
abbrev pub Outcome : Type 0 → Type 0
Outcome A = Result (A × List Tok) (List Tok)

-- the next token is of this kind
abbrev pub next_is : Kind → List Tok → Bool
next_is k [] = false
next_is k (t ∷ ts) = same_kind t.kind k

abbrev pub and_then : {A B : Type 0} → Outcome A → (A → List Tok → Outcome B) → Outcome B
and_then (Ok p) more = more p.0 p.1
and_then (Err ts) more = Err ts

-- reads one token of this kind
abbrev pub take_tok : Kind → List Tok → Outcome (List ℕ)
take_tok k [] = Err []
take_tok k (t ∷ ts) = if same_kind t.kind k then Ok (t.text, ts) else Err (t ∷ ts)

-- reads one token of this kind, and goes on behind it
abbrev pub after_tok : {A : Type 0} → Kind → (List Tok → Outcome A) → List Tok → Outcome A
after_tok k read [] = Err []
after_tok k read (t ∷ ts) = if same_kind t.kind k then read ts else Err (t ∷ ts)

-- reads items while the next token begins one, at most so many
abbrev pub loop : {A B : Type 0} → (A → B → A) → (List Tok → Bool) → (List Tok → Outcome B) → ℕ → A → List Tok → Outcome A
loop f begins read zero a ts = Ok (a, ts)
loop f begins read (suc n) a ts = if begins ts then and_then (read ts) (λ b rest. loop f begins read n (f a b) rest) else Ok (a, ts)

-- what was read of a prefix, with the tokens behind that prefix
abbrev pub put_back : {A : Type 0} → List Tok → Outcome A → Outcome A
put_back more (Ok p) = Ok (p.0, p.1 ++ more)
put_back more (Err ts) = Err (ts ++ more)

-- no token is a text of the rule
abbrev pub null : {A : Type 0} → G A → Bool
null (tok k) = false
null (pure a) = true
null (seq g h) = null g && null h
null (alt g h) = null g || null h
null (map f g) = null g
null (skip k g) = false
null (chain f g h) = null g
null (guard b g) = null g
null never = false
null (limit n g) = null g
null (note ks g) = null g

-- the next token begins a text of the rule
abbrev pub at : {A : Type 0} → G A → List Tok → Bool
at (tok k) ts = next_is k ts
at (pure a) ts = false
at (seq g h) ts = at g ts || (null g && at h ts)
at (alt g h) ts = at g ts || at h ts
at (map f g) ts = at g ts
at (skip k g) ts = next_is k ts
at (chain f g h) ts = at g ts || (null g && at h ts)
at (guard b g) ts = b && at g ts
at never ts = false
at (limit n g) ts = at g ts
at (note ks g) ts = at g ts

-- reads a text of the rule from the beginning of the tokens
abbrev pub parse : {A : Type 0} → G A → List Tok → Outcome A
parse (tok k) ts = take_tok k ts
parse (pure a) ts = Ok (a, ts)
parse (seq g h) ts = and_then (parse g ts) (λ a rest. and_then (parse h rest) (λ b end. Ok ((a, b), end)))
parse (alt g h) ts = if at g ts then parse g ts else parse h ts
parse (map f g) ts = and_then (parse g ts) (λ a rest. Ok (f a, rest))
parse (skip k g) ts = after_tok k (parse g) ts
parse (chain f g h) ts = and_then (parse g ts) (λ a rest. loop f (at h) (parse h) (length rest) a rest)
parse (guard b g) ts = if b then parse g ts else Err ts
parse never ts = Err ts
parse (limit n g) ts = put_back (drop n ts) (parse g (take n ts))
parse (note ks g) ts = parse g ts

-- One token decides

abbrev pub is_in : Kind → List Kind → Bool
is_in k ks = list_any (same_kind k) ks

-- no kind is in both
abbrev pub apart : List Kind → List Kind → Bool
apart ks js = list_all (λ k. not (is_in k js)) ks

-- each kind of the first is in the second
abbrev pub within : List Kind → List Kind → Bool
within ks js = list_all (λ k. is_in k js) ks

-- the kinds with which texts of the rule begin
abbrev pub first : {A : Type 0} → G A → List Kind
first (tok k) = k ∷ []
first (pure a) = []
first (seq g h) = first g ++ (if null g then first h else [])
first (alt g h) = first g ++ first h
first (map f g) = first g
first (skip k g) = k ∷ []
first (chain f g h) = first g ++ (if null g then first h else [])
first (guard b g) = first g
first never = []
first (limit n g) = first g
first (note ks g) = first g

-- the kinds that can follow a text of the rule inside a longer one
abbrev pub cont : {A : Type 0} → G A → List Kind
cont (tok k) = []
cont (pure a) = []
cont (seq g h) = cont h ++ (if null h then cont g else [])
cont (alt g h) = cont g ++ cont h ++ (if null h then first g else [])
cont (map f g) = cont g
cont (skip k g) = cont g
cont (chain f g h) = first h ++ cont h ++ cont g
cont (guard b g) = cont g
cont never = []
cont (limit n g) = cont g
cont (note ks g) = ks

-- everywhere in the rule one token ahead decides: where a text may go on and another may follow, or where a text of
-- either of two rules may begin, the next token tells which. The first of two rules isn't empty, nor is what repeats or
-- may be forbidden, and each note is right
abbrev pub ok : {A : Type 0} → G A → Bool
ok (tok k) = true
ok (pure a) = true
ok (seq g h) = ok g && ok h && apart (cont g) (first h)
ok (alt g h) = ok g && ok h && not (null g) && apart (first g) (first h)
ok (map f g) = ok g
ok (skip k g) = ok g
ok (chain f g h) = ok g && ok h && not (null h) && apart (cont g) (first h) && apart (cont h) (first h)
ok (guard b g) = ok g && not (null g)
ok never = true
ok (limit n g) = ok g && nat_lt 0 n
ok (note ks g) = ok g && within (cont g) ks
