-- Words in the form of a row are such as `clap` takes, and what it finds in them is what was sorted.
use Rattle.std.proofs.Common.{◌≡◌, ◌≢◌, ◌||◌, ℕ, ◌+◌, ◌<◌, min, Bool, true, false, cond, not, zero, suc, List, [], ◌∷◌, map, drop, length, refl, sym, ap, ap₂, add-one, ◌∙◌, subst, arith, Option, Some, None, true≢false, codes}
use Rattle.std.specs.Prelude.{IsSomeAnd, IfSome, MatchOption, fold, slice_index_or}
use Rattle.std.specs.Borrow.{Bor}
use Rattle.std.specs.List.{find, All}
use Rattle.std.specs.Option.{option_map, option_map_or, unwrap_or}
use Rattle.std.specs.Str.{IsUtf8, bytes_eq}
use Rattle.std.proofs.lemmas.Bool.Decides.{nat_tests}
use Rattle.std.specs.Prelude.{option_and_then, slice_get}
use Rattle.clap.specs.Matches.{found_of, raw_values}
use Rattle.clap.specs.Walk.{Row, all_of, first_of, rows_of}
use Rattle.clap.specs.declared.parser.matches.MatchedArg.{MatchedArg}
use Rattle.clap.specs.Simple.{matches_of}
use Rattle.clap.specs.Takes.{takes}
use Rattle.clap.specs.declared.parser.matches.ArgMatches.{ArgMatches}
use Rattle.clap.proofs.WalkLemmas.{raw_values-rows, first_value-rows}
use Rattle.call_words.specs.Sorting.{Bytes, Sorted, and_sorted, none_sorted, sorted}
use Rattle.call_words.specs.Forms.{texts}
use Rattle.call_words.specs.declared.grammar.Command.{Command}
use Rattle.call_words.specs.declared.grammar.Command.TheVariants.{Slice, Trace, Run, Graph, Members, Big, Forward, Chop}
use Rattle.call_words.specs.Grammar as grammar
use Rattle.call_words.specs.Grammar.{AreWanted, IsInForm, IsInGrammar, IsNumber, IsNumberWithin, IsOf, IsSortedInForm, command_of, decimal_from, kind_at, kind_of, word}
use Rattle.call_words.specs.declared.request.Request.{Request}
use Rattle.call_words.specs.Requests.{AreWorkers, Asked, CanAsk, IsBounded, IsRead, asked_by, asked_of, asks, input_in, number_or, numbers_of, steps_in, value_given}
use Rattle.call_words.specs.Clap.{HasMatches, app_for, is_apart, option_names, others_found, value_found}
use Rattle.call_words.specs.declared.grammar.Kind.{Kind}
use Rattle.call_words.specs.declared.grammar.Kind.TheVariants.{File, Number}
use Rattle.call_words.proofs.Words.{dashes, is_name, knows, Each, each_of, each_map, once_of}
use Rattle.call_words.proofs.Places.{any_default}
use Rattle.call_words.proofs.ClapLaws.{Right, Holds, listed, single, taken, found}

-- a word of a kind doesn't begin with a hyphen
no_dash : (kind : Kind) (w : Bytes) → IsOf kind w → dashes w ≡ false
no_dash File [] is = refl
no_dash File (b ∷ bs) is = let ne : b ≢ 45 = is.no_dash in grind (arith, nat_tests)
no_dash (Number least greatest) [] is = refl
no_dash (Number least greatest) (b ∷ bs) is =
    let digit = is.number.all_digits 0 b (omega arith) in
    let ne : b ≢ 45 = λ e. absurd (omega (arith, e, digit)) in
    grind (arith, nat_tests)

some_no_dash : (o : Option Kind) (w : Bytes) → IsSomeAnd o (λ kind. IsOf kind w) → dashes w ≡ false
some_no_dash None w is = absurd is
some_no_dash (Some kind) w is = no_dash kind w is

each_at : (P : Bytes → Type 0) (xs : List Bytes) → ((i : ℕ) → i < length xs → P (slice_index_or xs i [])) → Each P xs
each_at P [] at_all = tt
each_at P (x ∷ xs) at_all = (at_all 0 (omega arith), each_at P xs (λ i lt. at_all (suc i) (omega arith)))

-- an option that has a kind is one of the row
is_known : (options : List (Bytes × Kind)) (name : Bytes) (P : Kind → Type 0) → IsSomeAnd (option_map (λ (o : Bytes × Kind). o.1) (find (λ (o : Bytes × Kind). bytes_eq o.0 name) options)) P
    → knows (map (λ o. o.0) options) name ≡ true
is_known [] name P is = absurd is
is_known (o ∷ os) name P is = go (bytes_eq o.0 name) is (λ rest. is_known os name P rest)
  where
    go : (t : Bool) → IsSomeAnd (option_map (λ (o : Bytes × Kind). o.1) (cond t (Some o) (find (λ (o : Bytes × Kind). bytes_eq o.0 name) os))) P
        → (IsSomeAnd (option_map (λ (o : Bytes × Kind). o.1) (find (λ (o : Bytes × Kind). bytes_eq o.0 name) os)) P → knows (map (λ o. o.0) os) name ≡ true)
        → (t || knows (map (λ o. o.0) os) name) ≡ true
    go true is rest = refl
    go false is rest = rest is

not_true : (b : Bool) → not b ≡ true → b ≡ false
not_true true e = absurd (true≢false (sym e))
not_true false e = refl

-- the values of a name, and the first of them
all_words : (o : Option MatchedArg) (others : List Bytes) → option_map raw_values o ≡ listed others → option_map_or raw_values o [] ≡ others
all_words None [] is = refl
all_words None (x ∷ xs) is = absurd (let e : ◌≡◌ {A = Option (List Bytes)} None (Some (x ∷ xs)) = is in cc)
all_words (Some a) [] is = absurd (let e : ◌≡◌ {A = Option (List Bytes)} (Some (raw_values a)) None = is in cc)
all_words (Some a) (x ∷ xs) is = let e : ◌≡◌ {A = Option (List Bytes)} (Some (raw_values a)) (Some (x ∷ xs)) = is in cc

first_all : (name : Bytes) (rows : List Row) → first_of name rows ≡ option_and_then (λ vs. slice_get vs 0) (all_of name rows)
first_all name rows = go (find (λ (r : Row). bytes_eq r.id name) rows)
  where
    go : (o : Option Row) → option_and_then (λ (r : Row). slice_get r.values 0) o ≡ option_and_then (λ vs. slice_get vs 0) (option_map (λ (r : Row). r.values) o)
    go None = refl
    go (Some r) = refl

first_single : (o : Option Bytes) → option_and_then (λ vs. slice_get vs 0) (single o) ≡ o
first_single None = refl
first_single (Some v) = refl

module _ (r : grammar.Row) (apart : is_apart r ≡ true) where
  abbrev names : List Bytes
  names = option_names r

  apart_is : knows names (codes "words") ≡ false
  apart_is = not_true _ apart

  abbrev IsKnown : Bytes × Bytes → Type 0
  IsKnown o = IsSomeAnd (kind_of r o.0) (λ kind. IsOf kind o.1)

  right : (s : Sorted) → IsSortedInForm r s → Right r.name names apart_is s
  right s form = record {
    others = each_at (λ w. dashes w ≡ false) s.others (λ i lt. some_no_dash _ (word s.others i) (form.others.each i lt));
    given = each_map IsKnown _ s.given (λ o is. (is_known r.options o.0 (λ kind. IsOf kind o.1) is, some_no_dash (kind_of r o.0) o.1 is)) (each_of IsKnown s.given form.options.known);
    once = once_of s.given form.options.once;
    waiting = rw form.whole refl;
  }

  module _ (words : List Bytes) (form : IsSortedInForm r (sorted words)) where
    pub all_taken : takes (app_for r.name names) words ≡ true
    all_taken = taken r.name names apart_is words (right (sorted words) form) form.whole

    pub all_found : (m : ArgMatches) → rows_of (found_of m) ≡ matches_of (app_for r.name names) words → HasMatches r (sorted words) m
    all_found m is =
        let holds : Holds r.name names apart_is (sorted words).others (sorted words).given (matches_of (app_for r.name names) words) =
        found r.name names apart_is words (right (sorted words) form) form.whole in
        record {
          words = all_words _ _ (raw_values-rows (found_of m) (codes "words") ∙ ap (all_of (codes "words")) is ∙ holds.words);
          values = λ name known.
              first_value-rows (found_of m) name ∙ ap (first_of name) is ∙ first_all name _
              ∙ ap (option_and_then (λ vs. slice_get vs 0)) (holds.values name known) ∙ first_single (value_given (sorted words).given name);
        }

-- ---- what words in the form of a row ask for

behind_first : (all : List (Bor Bytes)) → texts (drop 1 all) ≡ drop 1 (texts all)
behind_first [] = refl
behind_first (x ∷ xs) = refl

sorted_is : (all rest : List (Bor Bytes)) (s : Sorted) → rest ≡ drop 1 all → s ≡ fold and_sorted none_sorted (texts rest) → s ≡ sorted (texts all)
sorted_is all rest s tail is = is ∙ ap (λ ws. fold and_sorted none_sorted (texts ws)) tail ∙ ap (fold and_sorted none_sorted) (behind_first all)

pub is_in_form : (r : grammar.Row) (all rest : List (Bor Bytes)) (words : List Bytes) (s : Sorted) → texts all ≡ words → All IsUtf8 words → rest ≡ drop 1 all → s ≡ fold and_sorted none_sorted (texts rest)
    → IsSortedInForm r s → IsInForm r (texts all)
is_in_form r all rest words s same utf8 tail is form = record {
  utf8 = subst (All IsUtf8) (sym same) utf8;
  sorted = subst (IsSortedInForm r) (sorted_is all rest s tail is) form;
}

-- of words in the form of a command's row a request can be made
line_number : (least greatest : ℕ) (w : Bytes) → IsOf (Number least greatest) w → IsNumber w
line_number least greatest w is = is.number

-- the kinds behind the file, and of the one option, are numbers
line_kind : (i : ℕ) → slice_get (File ∷ grammar.line ∷ []) (min (i + 1) 1) ≡ Some grammar.line
line_kind zero = refl
line_kind (suc i) = let last : min (suc i + 1) 1 ≡ 1 = omega arith in ap (λ n. slice_get (File ∷ grammar.line ∷ []) n) last

tail_at : (others : List Bytes) (k : ℕ) (d : Bytes) → k < length (drop 1 others) → slice_index_or (drop 1 others) k d ≡ word others (k + 1)
tail_at [] k d lt = absurd (omega (arith, lt))
tail_at (x ∷ xs) k d lt = any_default xs k d [] lt ∙ ap (λ n. slice_index_or (x ∷ xs) n []) (sym (add-one k))

tail_long : (others : List Bytes) (k : ℕ) → k < length (drop 1 others) → k + 1 < length others
tail_long [] k lt = absurd (omega (arith, lt))
tail_long (x ∷ xs) k lt = omega (arith, lt)

lines_numbers : (r : grammar.Row) → ((i : ℕ) → kind_at r (i + 1) ≡ Some grammar.line) → (others : List Bytes) → AreWanted r others → All IsNumber (drop 1 others)
lines_numbers r kinds others wanted = λ k d lt.
    let is = wanted.each (k + 1) (tail_long others k lt) in
    subst IsNumber (sym (tail_at others k d lt))
    (line_number 0 9999999999 (word others (k + 1)) (subst (λ o. IsSomeAnd o (λ kind. IsOf kind (word others (k + 1)))) (kinds k) is))

-- where a row takes two words, the second of which is a line
one_line : (r : grammar.Row) → length r.wanted ≡ 2 → kind_at r 1 ≡ Some grammar.line → (others : List Bytes) → AreWanted r others → (1 < length others) × IsNumber (word others 1)
one_line r two second others wanted =
    let both : 1 < length others = (let enough = wanted.enough in omega (arith, enough, two)) in
    (both, line_number 0 9999999999 (word others 1) (subst (λ k. IsSomeAnd k (λ kind. IsOf kind (word others 1))) second (wanted.each 1 both)))

two_lines : (others : List Bytes) → AreWanted (grammar.row Chop) others → (2 < length others) × IsNumber (word others 1) × IsNumber (word others 2)
two_lines others wanted =
    let all : 2 < length others = (let enough = wanted.enough in omega (arith, enough)) in
    (all, line_number 0 9999999999 (word others 1) (wanted.each 1 (omega (arith, all))), line_number 0 9999999999 (word others 2) (wanted.each 2 all))

seed_and_size : (others : List Bytes) → AreWanted (grammar.row Big) others → (1 < length others) × IsNumberWithin 0 2147483647 (word others 0) × IsNumberWithin 1 1000 (word others 1)
seed_and_size others wanted =
    let both : 1 < length others = (let enough = wanted.enough in omega (arith, enough)) in
    (both, wanted.each 0 (omega (arith, both)), wanted.each 1 both)

-- an option whose values are numbers
module _ (r : grammar.Row) (name : Bytes) (least greatest : ℕ) (numbers : kind_of r name ≡ Some (Number least greatest)) where
  abbrev IsOption : Bytes × Bytes → Type 0
  IsOption o = IsSomeAnd (kind_of r o.0) (λ kind. IsOf kind o.1)

  first_number : (given : List (Bytes × Bytes)) → Each IsOption given → IfSome (value_given given name) (IsNumberWithin least greatest)
  first_number [] all = tt
  first_number (o ∷ os) all = go (bytes_eq o.0 name) refl (first_number os all.1)
    where
      go : (t : Bool) → bytes_eq o.0 name ≡ t → IfSome (value_given os name) (IsNumberWithin least greatest)
          → IfSome (option_map (λ (p : Bytes × Bytes). p.1) (cond t (Some o) (find (λ (p : Bytes × Bytes). bytes_eq p.0 name) os))) (IsNumberWithin least greatest)
      go true e rest =
          subst (λ k. IsSomeAnd k (λ kind. IsOf kind o.1)) numbers (subst (λ n. IsSomeAnd (kind_of r n) (λ kind. IsOf kind o.1)) (is_name o.0 name e) all.0)
      go false e rest = rest

  option_within : (s : Sorted) → IsSortedInForm r s → IfSome (value_given s.given name) (IsNumberWithin least greatest)
  option_within s form = first_number s.given (each_of IsOption s.given form.options.known)

  option_number : (s : Sorted) → IsSortedInForm r s → IfSome (value_given s.given name) IsNumber
  option_number s form = is_number (value_given s.given name) (option_within s form)
    where
      is_number : (value : Option Bytes) → IfSome value (IsNumberWithin least greatest) → IfSome value IsNumber
      is_number None h = tt
      is_number (Some digits) h = h.number

pub can_ask : (c : Command) (s : Sorted) → IsSortedInForm (grammar.row c) s → CanAsk c s.others (value_given s.given)
can_ask Slice s form = (
  (let enough = form.others.enough in omega (arith, enough)),
  lines_numbers (grammar.row Slice) line_kind s.others form.others,
  option_number (grammar.row Slice) (codes "workers") 1 16 refl s form,
)
can_ask Trace s form = (
  (let enough = form.others.enough in omega (arith, enough)),
  lines_numbers (grammar.row Trace) line_kind s.others form.others,
  option_number (grammar.row Trace) (codes "steps") 1 1000000000 refl s form,
)
can_ask Run s form = (
  (let enough = form.others.enough in omega (arith, enough)),
  option_number (grammar.row Run) (codes "steps") 1 1000000000 refl s form,
)
can_ask Graph s form = (
  (let enough = form.others.enough in omega (arith, enough)),
  option_number (grammar.row Graph) (codes "workers") 1 16 refl s form,
)
can_ask Members s form =
    let line = one_line (grammar.row Members) refl refl s.others form.others in
    (line.0, line.1, option_number (grammar.row Members) (codes "workers") 1 16 refl s form)
can_ask Big s form =
    let both = seed_and_size s.others form.others in
    (both.0, both.1, both.2, option_number (grammar.row Big) (codes "workers") 1 16 refl s form)
can_ask Forward s form =
    let line = one_line (grammar.row Forward) refl refl s.others form.others in
    (line.0, line.1, option_number (grammar.row Forward) (codes "workers") 1 16 refl s form)
can_ask Chop s form =
    let lines = two_lines s.others form.others in
    (lines.0, lines.1, lines.2, option_number (grammar.row Chop) (codes "workers") 1 16 refl s form)

-- 4 workers where no number of them is given, and else at least 1 and at most 16
workers_bounded : (value : Option Bytes) → IfSome value (IsNumberWithin 1 16) → AreWorkers (number_or 4 value)
workers_bounded None h = (omega arith, omega arith)
workers_bounded (Some digits) h = (h.at_least, h.at_most)

of_row : (c : Command) (s : Sorted) → kind_of (grammar.row c) (codes "workers") ≡ Some (Number 1 16) → IsSortedInForm (grammar.row c) s → AreWorkers (number_or 4 (value_given s.given (codes "workers")))
of_row c s numbers form =
    workers_bounded (value_given s.given (codes "workers")) (option_within (grammar.row c) (codes "workers") 1 16 numbers s form)

-- and its numbers are those that the row lets through
asks_bounded : (c : Command) (s : Sorted) → IsSortedInForm (grammar.row c) s → IsBounded (asks c s.others (value_given s.given))
asks_bounded Slice s form = of_row Slice s refl form
asks_bounded Trace s form = tt
asks_bounded Run s form = tt
asks_bounded Graph s form = of_row Graph s refl form
asks_bounded Members s form = of_row Members s refl form
asks_bounded Big s form =
    let both = seed_and_size s.others form.others in
    (both.1.at_most, both.2.at_least, both.2.at_most, of_row Big s refl form)
asks_bounded Forward s form = of_row Forward s refl form
asks_bounded Chop s form = of_row Chop s refl form

pub words_bounded : (words : List Bytes) → IsInGrammar words → IsBounded (asked_of words)
words_bounded words g = go (command_of words) g
  where
    go : (c : Option Command) → IsSomeAnd c (λ c. IsInForm (grammar.row c) words)
        → IsBounded (unwrap_or (option_map (λ c. asks c (sorted words).others (value_given (sorted words).given)) c) (Asked.slice [] [] 0))
    go None is = absurd is
    go (Some c) is = asks_bounded c (sorted words) is.sorted

-- words in the grammar are UTF-8
pub words_utf8 : (words : List Bytes) → IsInGrammar words → All IsUtf8 words
words_utf8 words g = go (command_of words) g
  where
    go : (c : Option Command) → IsSomeAnd c (λ c. IsInForm (grammar.row c) words) → All IsUtf8 words
    go None is = absurd is
    go (Some c) is = is.utf8

-- what rules itself out where there is nothing
pub nothing_rules_out : {A : Type 0} (o : Option A) (P : A → Type 0) (U : Type 0) → ((x : A) → o ≡ Some x → ⊥) → MatchOption o (U → ⊥) P → U → ⊥
nothing_rules_out None P U none is = is
nothing_rules_out (Some x) P U none is = λ u. none x refl

-- what was found asks for what was sorted
pub asks_found : (c : Command) (s : Sorted) (m : ArgMatches) → HasMatches (grammar.row c) s m → asks c (others_found m) (value_found m) ≡ asks c s.others (value_given s.given)
asks_found Slice s m has = ap₂ (λ others value. Asked.slice (word others 0) (numbers_of (drop 1 others)) (number_or 4 value)) has.words (has.values (codes "workers") refl)
asks_found Trace s m has =
    ap₂ (λ others value. Asked.trace (word others 0) (numbers_of (drop 1 others)) (input_in (value_found m)) (number_or 10000000 value)) has.words (has.values (codes "steps") refl)
    ∙ ap (λ value. Asked.trace (word s.others 0) (numbers_of (drop 1 s.others)) (unwrap_or value []) (steps_in (value_given s.given))) (has.values (codes "input") refl)
asks_found Run s m has =
    ap₂ (λ others value. Asked.run (word others 0) (input_in (value_found m)) (number_or 10000000 value)) has.words (has.values (codes "steps") refl)
    ∙ ap (λ value. Asked.run (word s.others 0) (unwrap_or value []) (steps_in (value_given s.given))) (has.values (codes "input") refl)
asks_found Graph s m has = ap₂ (λ others value. Asked.graph (word others 0) (number_or 4 value)) has.words (has.values (codes "workers") refl)
asks_found Members s m has =
    ap₂ (λ others value. Asked.members (word others 0) (decimal_from 0 (word others 1)) (number_or 4 value)) has.words (has.values (codes "workers") refl)
asks_found Big s m has =
    ap₂ (λ others value. Asked.big (decimal_from 0 (word others 0)) (decimal_from 0 (word others 1)) (number_or 4 value)) has.words (has.values (codes "workers") refl)
asks_found Forward s m has =
    ap₂ (λ others value. Asked.forward (word others 0) (decimal_from 0 (word others 1)) (number_or 4 value)) has.words (has.values (codes "workers") refl)
asks_found Chop s m has =
    ap₂ (λ others value. Asked.chop (word others 0) (decimal_from 0 (word others 1)) (decimal_from 0 (word others 2)) (number_or 4 value)) has.words (has.values (codes "workers") refl)

pub can_ask_found : (c : Command) (s : Sorted) (m : ArgMatches) → HasMatches (grammar.row c) s m → CanAsk c s.others (value_given s.given) → CanAsk c (others_found m) (value_found m)
can_ask_found Slice s m has can = (
  subst (λ others. 0 < length others) (sym has.words) can.0,
  subst (λ others. All IsNumber (drop 1 others)) (sym has.words) can.1,
  subst (λ value. IfSome value IsNumber) (sym (has.values (codes "workers") refl)) can.2,
)
can_ask_found Trace s m has can = (
  subst (λ others. 0 < length others) (sym has.words) can.0,
  subst (λ others. All IsNumber (drop 1 others)) (sym has.words) can.1,
  subst (λ value. IfSome value IsNumber) (sym (has.values (codes "steps") refl)) can.2,
)
can_ask_found Run s m has can = (
  subst (λ others. 0 < length others) (sym has.words) can.0,
  subst (λ value. IfSome value IsNumber) (sym (has.values (codes "steps") refl)) can.1,
)
can_ask_found Graph s m has can = (
  subst (λ others. 0 < length others) (sym has.words) can.0,
  subst (λ value. IfSome value IsNumber) (sym (has.values (codes "workers") refl)) can.1,
)
can_ask_found Members s m has can = (
  subst (λ others. 1 < length others) (sym has.words) can.0,
  subst (λ others. IsNumber (word others 1)) (sym has.words) can.1,
  subst (λ value. IfSome value IsNumber) (sym (has.values (codes "workers") refl)) can.2,
)
can_ask_found Big s m has can = (
  subst (λ others. 1 < length others) (sym has.words) can.0,
  subst (λ others. IsNumberWithin 0 2147483647 (word others 0)) (sym has.words) can.1,
  subst (λ others. IsNumberWithin 1 1000 (word others 1)) (sym has.words) can.2,
  subst (λ value. IfSome value IsNumber) (sym (has.values (codes "workers") refl)) can.3,
)
can_ask_found Forward s m has can = (
  subst (λ others. 1 < length others) (sym has.words) can.0,
  subst (λ others. IsNumber (word others 1)) (sym has.words) can.1,
  subst (λ value. IfSome value IsNumber) (sym (has.values (codes "workers") refl)) can.2,
)
can_ask_found Chop s m has can = (
  subst (λ others. 2 < length others) (sym has.words) can.0,
  subst (λ others. IsNumber (word others 1)) (sym has.words) can.1,
  subst (λ others. IsNumber (word others 2)) (sym has.words) can.2,
  subst (λ value. IfSome value IsNumber) (sym (has.values (codes "workers") refl)) can.3,
)

-- no option of a row has the name of the argument of all other words
pub rows_apart : (c : Command) → is_apart (grammar.row c) ≡ true
rows_apart Slice = refl
rows_apart Trace = refl
rows_apart Run = refl
rows_apart Graph = refl
rows_apart Members = refl
rows_apart Big = refl
rows_apart Forward = refl
rows_apart Chop = refl

-- the command that the first word names
pub command_is : (all : List (Bor Bytes)) (name : Bytes) (c : Option Command) → 0 < length all → (d : Bor Bytes) → name ≡ (slice_index_or all 0 d).now → c ≡ command_of (name ∷ []) → c ≡ command_of (texts all)
command_is [] name c some d is found = absurd (omega (arith, some))
command_is (x ∷ xs) name c some d is found = found ∙ ap (λ n. command_of (n ∷ [])) is

-- words in the form of the command that they name, whose matches make this request
pub is_read : (all : List Bytes) (command : Command) (m : ArgMatches) (r : Request) → Some command ≡ command_of all → IsInForm (grammar.row command) all
    → HasMatches (grammar.row command) (sorted all) m → asked_by r ≡ asks command (others_found m) (value_found m) → IsRead all r
is_read all command m r named form has made = record {
  in_grammar = subst (λ (o : Option Command). IsSomeAnd o (λ c. IsInForm (grammar.row c) all)) named form;
  asks_for =
      ap (option_map (λ (c : Command). asks c (sorted all).others (value_given (sorted all).given))) (sym named)
      ∙ ap (λ (a : Asked). Some a) (sym (made ∙ asks_found command (sorted all) m has));
}
