-- What is told of the files, and what causes rule out.
use Rattle.std.proofs.Common.{◌≡◌, ◌⊎◌, inl, inr, ℕ, ◌≤◌, ◌<◌, [], length, refl, sym, ap, subst, ◌∙◌, arith}
use Rattle.std.specs.Prelude.{Option, Some, None, IsSome, IsSomeAnd, unwrap_or}
use Rattle.edge_io.specs.Contents.{Told, IsAsTold, Lacks, HoldsMoreThan}
use Rattle.edge_io.specs.Count.{NeverFalls, Rose}
use Rattle.c_language.specs.Words.{Bytes}
use Rattle.call_words.specs.Requests.{Asked, file_in, input_of}
use Rattle.slicer_top.specs.declared.refusal.Refusal.{Refusal}
use Rattle.slicer_top.specs.declared.refusal.Refusal.TheVariants.{Unreadable, TooLong, NoInput, LongInput, Lex, Parse, Check, NoStart, Graph, TooMany, UndefinedAct, MoreSteps, NoMemory}
use Rattle.slicer_top.specs.declared.status.Status.TheVariants as status
use Rattle.slicer_top.specs.Files.{AreFetches, AreFetchesOf, AreShort, HoldsGiven, HoldsText, IsGiven, IsNameOf, IsThere, OfFiles, OfGiven, text_made}
use Rattle.slicer_top.specs.Lines.{cannot_read, too_long}
use Rattle.slicer_top.specs.Reports.{IsReason, IsCause, IsInputFault, IsLong, IsMissing, IsTextFault, IsUnread, status_of, words_of}
use Rattle.slicer_top.proofs.Puts.{rose_later}

told_some : (told : Told) (name text : Bytes) → HoldsText told name text → IsSome told
told_some None name text holds = absurd holds
told_some (Some under) name text holds = refl

not_lacking : (told : Told) (name text : Bytes) → HoldsText told name text → Lacks told name → ⊥
not_lacking None name text holds lacks = holds
not_lacking (Some under) name text holds lacks = cc

not_longer : (told : Told) (name text : Bytes) (most : ℕ) → HoldsText told name text → length text ≤ most → HoldsMoreThan told name most → ⊥
not_longer None name text most holds le more = holds
not_longer (Some under) name text most holds le more =
    let longer : IsSomeAnd (Some text) (λ bytes. most < length bytes) = subst (λ found. IsSomeAnd found (λ bytes. most < length bytes)) holds more in
    absurd (omega (arith, le, longer))

-- one text stands under a name
told_once : (told : Told) (name text other : Bytes) → HoldsText told name text → IsAsTold told name other → other ≡ text
told_once None name text other holds is = absurd holds
told_once (Some under) name text other holds is = let e : ◌≡◌ {A = Option Bytes} (Some other) (Some text) = sym is ∙ holds in cc

-- what is as it is told isn't lacking, and isn't longer than it may be
told_lacks : (told : Told) (name text : Bytes) → IsAsTold told name text → Lacks told name → ⊥
told_lacks None name text is lacks = lacks
told_lacks (Some under) name text is lacks = not_lacking (Some under) name text is lacks

told_longer : (told : Told) (name text : Bytes) (most : ℕ) → IsAsTold told name text → length text ≤ most → HoldsMoreThan told name most → ⊥
told_longer None name text most is le more = more
told_longer (Some under) name text most is le more = not_longer (Some under) name text most is le more

lacks_longer : (told : Told) (name : Bytes) (most : ℕ) → Lacks told name → HoldsMoreThan told name most → ⊥
lacks_longer None name most lacks more = absurd lacks
lacks_longer (Some under) name most lacks more = let none : IsSomeAnd None (λ (text : Bytes). most < length text) = subst (λ found. IsSomeAnd found (λ (text : Bytes). most < length text)) lacks more in absurd none

lacks_some : (told : Told) (name : Bytes) → Lacks told name → IsSome told
lacks_some None name lacks = absurd lacks
lacks_some (Some under) name lacks = refl

-- ---- a file that may be asked for

as_given : (told : Told) (made : Bytes) (name : Option Bytes) (bytes : Bytes) (P : Bytes → Type 0) → IsGiven told made name bytes → P bytes → OfGiven told made name P
as_given told made name bytes P is h = (bytes, is, h)

of_given : (told : Told) (made : Bytes) (name : Option Bytes) (bytes : Bytes) (P : Bytes → Type 0) → HoldsGiven told made name bytes → OfGiven told made name P → P bytes
of_given told made None bytes P holds (other, is, h) = subst P (is ∙ sym holds) h
of_given told made (Some name) bytes P holds (other, is, h) = subst P (told_once told name bytes other holds.0 is) h

of_given_map : (told : Told) (made : Bytes) (name : Option Bytes) (P Q : Bytes → Type 0) → ((bytes : Bytes) → P bytes → Q bytes) → OfGiven told made name P → OfGiven told made name Q
of_given_map told made name P Q f (bytes, is, h) = (bytes, is, f bytes h)

-- ---- both files

-- what holds of the input
abbrev WithInput : Told → Asked → (Bytes → Bytes → Type 0) → Bytes → Type 0
WithInput told asked P text = OfGiven told [] (input_of asked) (P text)

pub as_files : (told : Told) (asked : Asked) (text input : Bytes) (P : Bytes → Bytes → Type 0) → IsGiven told (text_made asked) (file_in asked) text → IsGiven told [] (input_of asked) input → P text input → OfFiles told asked P
as_files told asked text input P is input_is h =
    as_given told (text_made asked) (file_in asked) text (WithInput told asked P) is (as_given told [] (input_of asked) input (P text) input_is h)

pub of_files : (told : Told) (asked : Asked) (text input : Bytes) (P : Bytes → Bytes → Type 0) → HoldsGiven told (text_made asked) (file_in asked) text → HoldsGiven told [] (input_of asked) input → OfFiles told asked P → P text input
of_files told asked text input P holds holds_input of =
    of_given told [] (input_of asked) input (P text) holds_input (of_given told (text_made asked) (file_in asked) text (WithInput told asked P) holds of)

pub of_files_map : (told : Told) (asked : Asked) (P Q : Bytes → Bytes → Type 0) → ((text input : Bytes) → P text input → Q text input) → OfFiles told asked P → OfFiles told asked Q
of_files_map told asked P Q f of =
    of_given_map told (text_made asked) (file_in asked) (WithInput told asked P) (WithInput told asked Q) (λ text. of_given_map told [] (input_of asked) (P text) (Q text) (f text)) of

-- the text by its name
-- what stands under a name that is asked for
as_named : (told : Told) (made : Bytes) (asked : Option Bytes) (name bytes : Bytes) → asked ≡ Some name → IsGiven told made asked bytes → IsAsTold told name bytes
as_named told made asked name bytes named is = subst (λ o. IsGiven told made o bytes) named is

-- what stands under the names isn't lacking, and isn't longer than it may be
pub of_files_lacks : (told : Told) (asked : Asked) (name : Bytes) (P : Bytes → Bytes → Type 0) → file_in asked ≡ Some name → OfFiles told asked P → Lacks told name → ⊥
of_files_lacks told asked name P named (text, is, rest) lacks = told_lacks told name text (as_named told (text_made asked) (file_in asked) name text named is) lacks

pub of_files_longer : (told : Told) (asked : Asked) (name : Bytes) (Q : Bytes → Bytes → Type 0) → file_in asked ≡ Some name → OfFiles told asked (λ text input. AreShort text input × Q text input) → HoldsMoreThan told name 1048576 → ⊥
of_files_longer told asked name Q named (text, is, (input, input_is, (short, h))) more =
    told_longer told name text 1048576 (as_named told (text_made asked) (file_in asked) name text named is) short.0 more

pub of_files_lacks_input : (told : Told) (asked : Asked) (name : Bytes) (P : Bytes → Bytes → Type 0) → input_of asked ≡ Some name → OfFiles told asked P → Lacks told name → ⊥
of_files_lacks_input told asked name P named (text, text_is, (input, is, h)) lacks = told_lacks told name input (as_named told [] (input_of asked) name input named is) lacks

pub of_files_longer_input : (told : Told) (asked : Asked) (name : Bytes) (Q : Bytes → Bytes → Type 0) → input_of asked ≡ Some name → OfFiles told asked (λ text input. AreShort text input × Q text input) → HoldsMoreThan told name 1048576 → ⊥
of_files_longer_input told asked name Q named (text, text_is, (input, is, (short, h))) more =
    told_longer told name input 1048576 (as_named told [] (input_of asked) name input named is) short.1 more

-- a text that is there
pub is_there : (told : Told) (asked : Asked) (text : Bytes) → IsGiven told (text_made asked) (file_in asked) text → length text ≤ 1048576 → IsThere told asked
is_there told asked text is le = (text, is, le)

there_lacks : (told : Told) (asked : Asked) (name : Bytes) → file_in asked ≡ Some name → IsThere told asked → Lacks told name → ⊥
there_lacks told asked name named (text, is, le) lacks = told_lacks told name text (as_named told (text_made asked) (file_in asked) name text named is) lacks

there_longer : (told : Told) (asked : Asked) (name : Bytes) → file_in asked ≡ Some name → IsThere told asked → HoldsMoreThan told name 1048576 → ⊥
there_longer told asked name named (text, is, le) more = told_longer told name text 1048576 (as_named told (text_made asked) (file_in asked) name text named is) le more

-- ---- fetches

-- the text didn't come, or the input was fetched after it
pub fetched_first : (asked : Asked) (before after : ℕ) → AreFetchesOf (file_in asked) before after → AreFetches asked before after
fetched_first asked before after first = (after, first, inl refl)

fetched_both : (asked : Asked) (before middle after : ℕ) → AreFetchesOf (file_in asked) before middle → AreFetchesOf (input_of asked) middle after → AreFetches asked before after
fetched_both asked before middle after first second = (middle, first, inr second)

-- ---- causes

module _ (told : Told) (f m f' l n l' : ℕ) (faults : NeverFalls f m) (long_files : NeverFalls l n) where
  unread_later : (name : Bytes) → IsUnread told m f' n l' name → IsUnread told f f' l l' name
  unread_later name (inl rose) = inl (rose_later f m f' faults rose)
  unread_later name (inr lacks) = inr lacks

  some_unread : (o : Option Bytes) → IsSomeAnd o (IsUnread told m f' n l') → IsSomeAnd o (IsUnread told f f' l l')
  some_unread None of = absurd of
  some_unread (Some name) of = unread_later name of

  some_long : (o : Option Bytes) → IsSomeAnd o (IsLong told m f' n l') → IsSomeAnd o (IsLong told f f' l l')
  some_long None of = absurd of
  some_long (Some name) of = (rose_later l n l' long_files of.0, of.1)

  -- where the text came, a fault of the input has its cause
  pub input_caused : (asked : Asked) (r : Refusal) → IsThere told asked → IsInputFault told m f' n l' (input_of asked) r → IsCause told asked f f' l l' r
  input_caused asked NoInput there fault = (there, some_unread (input_of asked) fault)
  input_caused asked LongInput there fault = (there, some_long (input_of asked) fault)
  input_caused asked NoMemory there fault = tt
  input_caused asked Unreadable there fault = absurd fault
  input_caused asked TooLong there fault = absurd fault
  input_caused asked (Lex x) there fault = absurd fault
  input_caused asked (Parse x) there fault = absurd fault
  input_caused asked (Check x) there fault = absurd fault
  input_caused asked (NoStart line) there fault = absurd fault
  input_caused asked (Graph name) there fault = absurd fault
  input_caused asked TooMany there fault = absurd fault
  input_caused asked (UndefinedAct at statement) there fault = absurd fault
  input_caused asked MoreSteps there fault = absurd fault

-- a fault of the text is its cause, and it is lacking, of a shelf that never fails
module _ (told : Told) (f f' l l' : ℕ) where
  pub text_caused : (asked : Asked) (r : Refusal) → IsTextFault told f f' l l' (file_in asked) r → IsCause told asked f f' l l' r
  text_caused asked Unreadable fault = fault
  text_caused asked TooLong fault = fault
  text_caused asked NoMemory fault = tt
  text_caused asked NoInput fault = absurd fault
  text_caused asked LongInput fault = absurd fault
  text_caused asked (Lex x) fault = absurd fault
  text_caused asked (Parse x) fault = absurd fault
  text_caused asked (Check x) fault = absurd fault
  text_caused asked (NoStart line) fault = absurd fault
  text_caused asked (Graph name) fault = absurd fault
  text_caused asked TooMany fault = absurd fault
  text_caused asked (UndefinedAct at statement) fault = absurd fault
  text_caused asked MoreSteps fault = absurd fault

  pub text_missing : (asked : Asked) (r : Refusal) → IsTextFault told f f' l l' (file_in asked) r → (r ≡ Unreadable → IsSomeAnd (file_in asked) (Lacks told)) → IsMissing told asked r
  text_missing asked Unreadable fault missing = missing refl
  text_missing asked TooLong fault missing = tt
  text_missing asked NoMemory fault missing = tt
  text_missing asked NoInput fault missing = absurd fault
  text_missing asked LongInput fault missing = absurd fault
  text_missing asked (Lex x) fault missing = absurd fault
  text_missing asked (Parse x) fault missing = absurd fault
  text_missing asked (Check x) fault missing = absurd fault
  text_missing asked (NoStart line) fault missing = absurd fault
  text_missing asked (Graph name) fault missing = absurd fault
  text_missing asked TooMany fault missing = absurd fault
  text_missing asked (UndefinedAct at statement) fault missing = absurd fault
  text_missing asked MoreSteps fault missing = absurd fault

  -- likewise of the input
  pub input_missing : (asked : Asked) (r : Refusal) → IsInputFault told f f' l l' (input_of asked) r → (r ≡ NoInput → IsSomeAnd (input_of asked) (Lacks told)) → IsMissing told asked r
  input_missing asked NoInput fault missing = missing refl
  input_missing asked LongInput fault missing = tt
  input_missing asked NoMemory fault missing = tt
  input_missing asked Unreadable fault missing = absurd fault
  input_missing asked TooLong fault missing = absurd fault
  input_missing asked (Lex x) fault missing = absurd fault
  input_missing asked (Parse x) fault missing = absurd fault
  input_missing asked (Check x) fault missing = absurd fault
  input_missing asked (NoStart line) fault missing = absurd fault
  input_missing asked (Graph name) fault missing = absurd fault
  input_missing asked TooMany fault missing = absurd fault
  input_missing asked (UndefinedAct at statement) fault missing = absurd fault
  input_missing asked MoreSteps fault missing = absurd fault

-- want of memory is a fault of no file
pub memory_alone_is_fault : (told : Told) (f f' l l' : ℕ) (name : Option Bytes) (r : Refusal) → r ≡ NoMemory → IsTextFault told f f' l l' name r
memory_alone_is_fault told f f' l l' name r is = subst (IsTextFault told f f' l l' name) (sym is) tt

pub memory_alone_is_told : (told : Told) (name : Option Bytes) (r : Refusal) → r ≡ NoMemory → r ≡ Unreadable → IsSomeAnd name (Lacks told)
memory_alone_is_told told name r is unread = absurd (let e : NoMemory ≡ Unreadable = sym is ∙ unread in cc)

-- both files came, and neither is too long
pub record Came (told : Told) (asked : Asked) (text input : Bytes) : Type 0 where
  pub text_is : IsGiven told (text_made asked) (file_in asked) text
  pub input_is : IsGiven told [] (input_of asked) input
  pub short : AreShort text input

-- what comes of fetching the input after the text, by the names and the contents at each fetch
module _ (told told' : Told) (same : told' ≡ told) (asked : Asked) (o : Option Bytes) (is : o ≡ input_of asked) where
  fault_as : (f f' l l' : ℕ) (r : Refusal) → IsInputFault told' f f' l l' o r → IsInputFault told f f' l l' (input_of asked) r
  fault_as f f' l l' r fault = subst (λ t. IsInputFault t f f' l l' (input_of asked) r) same (subst (λ n. IsInputFault told' f f' l l' n r) is fault)

  pub input_refused : (f m f' l n l' : ℕ) → NeverFalls f m → NeverFalls l n → (text : Bytes) → IsGiven told (text_made asked) (file_in asked) text → length text ≤ 1048576
      → (r : Refusal) → IsInputFault told' m f' n l' o r → IsCause told asked f f' l l' r
  input_refused f m f' l n l' faults long_files text given le r fault =
      input_caused told f m f' l n l' faults long_files asked r (is_there told asked text given le) (fault_as m f' n l' r fault)

  pub refused_missing : (f f' l l' : ℕ) (r : Refusal) → IsInputFault told' f f' l l' o r → (r ≡ NoInput → IsSomeAnd o (Lacks told')) → IsMissing told asked r
  refused_missing f f' l l' r fault missing =
      input_missing told f f' l l' asked r (fault_as f f' l l' r fault) (λ e. subst (λ t. IsSomeAnd (input_of asked) (Lacks t)) same (subst (λ n. IsSomeAnd n (Lacks told')) is (missing e)))

  pub fetched_all : (before middle after : ℕ) → AreFetchesOf (file_in asked) before middle → AreFetchesOf o middle after → AreFetches asked before after
  fetched_all before middle after first second = fetched_both asked before middle after first (subst (λ n. AreFetchesOf n middle after) is second)

  pub both_came : (text input t i : Bytes) → t ≡ text → i ≡ input → IsGiven told (text_made asked) (file_in asked) text → length text ≤ 1048576 → IsGiven told' [] o input → length input ≤ 1048576 → Came told asked t i
  both_came text input t i t_is i_is given le input_told input_le = record {
    text_is = subst (λ x. IsGiven told (text_made asked) (file_in asked) x) (sym t_is) given;
    input_is = subst (λ x. IsGiven told [] (input_of asked) x) (sym i_is) (subst (λ x. IsGiven x [] (input_of asked) input) same (subst (λ x. IsGiven told' [] x input) is input_told));
    short = (subst (λ x. length x ≤ 1048576) (sym t_is) le, subst (λ x. length x ≤ 1048576) (sym i_is) input_le);
  }

-- ---- what a refusal's status says of the files

module _ (told : Told) (asked : Asked) (f f' l l' : ℕ) where
  abbrev Unread : Bytes → Type 0
  Unread = IsUnread told f f' l l'

  abbrev Long : Bytes → Type 0
  Long = IsLong told f f' l l'

  -- one of the files couldn't be read, and the refusal names it
  abbrev pub NamesUnread : Refusal → Type 0
  NamesUnread r = (name : Bytes) × IsNameOf told asked name × (Rose f f' ⊎ Lacks told name) × (words_of asked r ≡ cannot_read name)

  -- one of them is too long
  abbrev pub NamesLong : Refusal → Type 0
  NamesLong r = (name : Bytes) × IsNameOf told asked name × Rose l l' × (IsSome told → HoldsMoreThan told name 1048576) × (words_of asked r ≡ too_long name)

  pub text_unread : (o : Option Bytes) → file_in asked ≡ o → IsSomeAnd o Unread → NamesUnread Unreadable
  text_unread None is of = absurd of
  text_unread (Some name) is of = (name, inl is, of, ap (λ p. cannot_read (unwrap_or p [])) is)

  pub text_long : (o : Option Bytes) → file_in asked ≡ o → IsSomeAnd o Long → NamesLong TooLong
  text_long None is of = absurd of
  text_long (Some name) is of = (name, inl is, of.0, of.1, ap (λ p. too_long (unwrap_or p [])) is)

  pub named_unread : (o : Option Bytes) → input_of asked ≡ o → IsThere told asked → IsSomeAnd o Unread → NamesUnread NoInput
  named_unread None is there of = absurd of
  named_unread (Some name) is there of = (name, inr (is, there), of, ap (λ p. cannot_read (unwrap_or p [])) is)

  pub named_long : (o : Option Bytes) → input_of asked ≡ o → IsThere told asked → IsSomeAnd o Long → NamesLong LongInput
  named_long None is there of = absurd of
  named_long (Some name) is there of = (name, inr (is, there), of.0, of.1, ap (λ p. too_long (unwrap_or p [])) is)

  -- a file that is too long couldn't be read for a fault
  faulty : (name : Bytes) → Unread name → HoldsMoreThan told name 1048576 → Rose f f'
  faulty name (inl rose) more = rose
  faulty name (inr lacks) more = absurd (lacks_longer told name 1048576 lacks more)

  -- where the text lacks, it couldn't be read; where it is too long, that is told, or a fault came
  module _ (name : Bytes) (named : file_in asked ≡ Some name) where
    pub lacking_is : (r : Refusal) → IsCause told asked f f' l l' r → Lacks told name → (status_of r ≡ status.ReadFault) ⊎ (status_of r ≡ status.NoMemory)
    lacking_is Unreadable cause lacks = inl refl
    lacking_is TooLong cause lacks =
        let long : Long name = subst (λ o. IsSomeAnd o Long) named cause in absurd (lacks_longer told name 1048576 lacks (long.1 (lacks_some told name lacks)))
    lacking_is NoInput cause lacks = absurd (there_lacks told asked name named cause.0 lacks)
    lacking_is LongInput cause lacks = absurd (there_lacks told asked name named cause.0 lacks)
    lacking_is (Lex fault) cause lacks = absurd (of_files_lacks told asked name _ named cause lacks)
    lacking_is (Parse fault) cause lacks = absurd (of_files_lacks told asked name _ named cause lacks)
    lacking_is (Check fault) cause lacks = absurd (of_files_lacks told asked name _ named cause lacks)
    lacking_is (NoStart n) cause lacks = absurd (of_files_lacks told asked name _ named cause lacks)
    lacking_is (Graph n) cause lacks = absurd (of_files_lacks told asked name _ named cause lacks)
    lacking_is TooMany cause lacks = absurd (of_files_lacks told asked name _ named cause lacks)
    lacking_is (UndefinedAct n m) cause lacks = absurd (of_files_lacks told asked name _ named cause lacks)
    lacking_is MoreSteps cause lacks = absurd (of_files_lacks told asked name _ named cause lacks)
    lacking_is NoMemory cause lacks = inr refl

    pub longer_is : (r : Refusal) → IsCause told asked f f' l l' r → HoldsMoreThan told name 1048576 → (status_of r ≡ status.TooLong) ⊎ (status_of r ≡ status.NoMemory) ⊎ ((status_of r ≡ status.ReadFault) × Rose f f')
    longer_is Unreadable cause more = let here : Unread name = subst (λ o. IsSomeAnd o Unread) named cause in inr (inr (refl, faulty name here more))
    longer_is TooLong cause more = inl refl
    longer_is NoInput cause more = absurd (there_longer told asked name named cause.0 more)
    longer_is LongInput cause more = absurd (there_longer told asked name named cause.0 more)
    longer_is (Lex fault) cause more = absurd (of_files_longer told asked name _ named cause more)
    longer_is (Parse fault) cause more = absurd (of_files_longer told asked name _ named cause more)
    longer_is (Check fault) cause more = absurd (of_files_longer told asked name _ named cause more)
    longer_is (NoStart n) cause more = absurd (of_files_longer told asked name _ named cause more)
    longer_is (Graph n) cause more = absurd (of_files_longer told asked name _ named cause more)
    longer_is TooMany cause more = absurd (of_files_longer told asked name _ named cause more)
    longer_is (UndefinedAct n m) cause more = absurd (of_files_longer told asked name _ named cause more)
    longer_is MoreSteps cause more = absurd (of_files_longer told asked name _ named cause more)
    longer_is NoMemory cause more = inr (inl refl)

  -- likewise of the input, where the text is there
  module _ (name : Bytes) (is : input_of asked ≡ Some name) (there : IsThere told asked) where
    not_long : (o : Option Bytes) → file_in asked ≡ o → IsSomeAnd o Long → IsSome told → ⊥
    not_long None e of some = absurd of
    not_long (Some text) e of some = there_longer told asked text e there (of.1 some)

    unread : (o : Option Bytes) → file_in asked ≡ o → IsSomeAnd o Unread → Rose f f'
    unread None e of = absurd of
    unread (Some text) e (inl rose) = rose
    unread (Some text) e (inr lacks) = absurd (there_lacks told asked text e there lacks)

    pub lacking_input_is : (r : Refusal) → IsCause told asked f f' l l' r → Lacks told name → (status_of r ≡ status.ReadFault) ⊎ (status_of r ≡ status.NoMemory)
    lacking_input_is Unreadable cause lacks = inl refl
    lacking_input_is TooLong cause lacks = absurd (not_long (file_in asked) refl cause (lacks_some told name lacks))
    lacking_input_is NoInput cause lacks = inl refl
    lacking_input_is LongInput cause lacks =
        let long : Long name = subst (λ o. IsSomeAnd o Long) is cause.1 in absurd (lacks_longer told name 1048576 lacks (long.1 (lacks_some told name lacks)))
    lacking_input_is (Lex fault) cause lacks = absurd (of_files_lacks_input told asked name _ is cause lacks)
    lacking_input_is (Parse fault) cause lacks = absurd (of_files_lacks_input told asked name _ is cause lacks)
    lacking_input_is (Check fault) cause lacks = absurd (of_files_lacks_input told asked name _ is cause lacks)
    lacking_input_is (NoStart n) cause lacks = absurd (of_files_lacks_input told asked name _ is cause lacks)
    lacking_input_is (Graph n) cause lacks = absurd (of_files_lacks_input told asked name _ is cause lacks)
    lacking_input_is TooMany cause lacks = absurd (of_files_lacks_input told asked name _ is cause lacks)
    lacking_input_is (UndefinedAct n m) cause lacks = absurd (of_files_lacks_input told asked name _ is cause lacks)
    lacking_input_is MoreSteps cause lacks = absurd (of_files_lacks_input told asked name _ is cause lacks)
    lacking_input_is NoMemory cause lacks = inr refl

    pub longer_input_is : (r : Refusal) → IsCause told asked f f' l l' r → HoldsMoreThan told name 1048576 → (status_of r ≡ status.TooLong) ⊎ (status_of r ≡ status.NoMemory) ⊎ ((status_of r ≡ status.ReadFault) × Rose f f')
    longer_input_is Unreadable cause more = inr (inr (refl, unread (file_in asked) refl cause))
    longer_input_is TooLong cause more = inl refl
    longer_input_is NoInput cause more = let here : Unread name = subst (λ o. IsSomeAnd o Unread) is cause.1 in inr (inr (refl, faulty name here more))
    longer_input_is LongInput cause more = inl refl
    longer_input_is (Lex fault) cause more = absurd (of_files_longer_input told asked name _ is cause more)
    longer_input_is (Parse fault) cause more = absurd (of_files_longer_input told asked name _ is cause more)
    longer_input_is (Check fault) cause more = absurd (of_files_longer_input told asked name _ is cause more)
    longer_input_is (NoStart n) cause more = absurd (of_files_longer_input told asked name _ is cause more)
    longer_input_is (Graph n) cause more = absurd (of_files_longer_input told asked name _ is cause more)
    longer_input_is TooMany cause more = absurd (of_files_longer_input told asked name _ is cause more)
    longer_input_is (UndefinedAct n m) cause more = absurd (of_files_longer_input told asked name _ is cause more)
    longer_input_is MoreSteps cause more = absurd (of_files_longer_input told asked name _ is cause more)
    longer_input_is NoMemory cause more = inr (inl refl)

  -- ---- files that are there and aren't too long

  given_unread : (made : Bytes) (o : Option Bytes) (bytes : Bytes) → HoldsGiven told made o bytes → IsSomeAnd o Unread → Rose f f'
  given_unread made None bytes held of = absurd of
  given_unread made (Some name) bytes held (inl rose) = rose
  given_unread made (Some name) bytes held (inr lacks) = absurd (not_lacking told name bytes held.0 lacks)

  given_lacks : (made : Bytes) (o : Option Bytes) (bytes : Bytes) → HoldsGiven told made o bytes → IsSomeAnd o (Lacks told) → ⊥
  given_lacks made None bytes held of = absurd of
  given_lacks made (Some name) bytes held lacks = not_lacking told name bytes held.0 lacks

  given_long : (made : Bytes) (o : Option Bytes) (bytes : Bytes) → HoldsGiven told made o bytes → IsSomeAnd o Long → ⊥
  given_long made None bytes held of = absurd of
  given_long made (Some name) bytes held of = not_longer told name bytes 1048576 held.0 held.1 (of.1 (told_some told name bytes held.0))

  module _ (text input : Bytes) (holds : HoldsGiven told (text_made asked) (file_in asked) text) (holds_input : HoldsGiven told [] (input_of asked) input) where
    -- they couldn't be read for a fault, or show the refusal
    pub fault_or_reason : (r : Refusal) → IsCause told asked f f' l l' r → ((status_of r ≡ status.ReadFault) × Rose f f') ⊎ IsReason text asked input r
    fault_or_reason Unreadable cause = inl (refl, given_unread (text_made asked) (file_in asked) text holds cause)
    fault_or_reason TooLong cause = absurd (given_long (text_made asked) (file_in asked) text holds cause)
    fault_or_reason NoInput cause = inl (refl, given_unread [] (input_of asked) input holds_input cause.1)
    fault_or_reason LongInput cause = absurd (given_long [] (input_of asked) input holds_input cause.1)
    fault_or_reason (Lex fault) cause = inr (of_files told asked text input _ holds holds_input cause).1
    fault_or_reason (Parse fault) cause = inr (of_files told asked text input _ holds holds_input cause).1
    fault_or_reason (Check fault) cause = inr (of_files told asked text input _ holds holds_input cause).1
    fault_or_reason (NoStart n) cause = inr (of_files told asked text input _ holds holds_input cause).1
    fault_or_reason (Graph n) cause = inr (of_files told asked text input _ holds holds_input cause).1
    fault_or_reason TooMany cause = inr (of_files told asked text input _ holds holds_input cause).1
    fault_or_reason (UndefinedAct n m) cause = inr (of_files told asked text input _ holds holds_input cause).1
    fault_or_reason MoreSteps cause = inr (of_files told asked text input _ holds holds_input cause).1
    fault_or_reason NoMemory cause = inr tt

    -- of a shelf that doesn't fail they show it
    pub reason_alone : (r : Refusal) → IsMissing told asked r → IsCause told asked f f' l l' r → IsReason text asked input r
    reason_alone Unreadable missing cause = absurd (given_lacks (text_made asked) (file_in asked) text holds missing)
    reason_alone TooLong missing cause = absurd (given_long (text_made asked) (file_in asked) text holds cause)
    reason_alone NoInput missing cause = absurd (given_lacks [] (input_of asked) input holds_input missing)
    reason_alone LongInput missing cause = absurd (given_long [] (input_of asked) input holds_input cause.1)
    reason_alone (Lex fault) missing cause = (of_files told asked text input _ holds holds_input cause).1
    reason_alone (Parse fault) missing cause = (of_files told asked text input _ holds holds_input cause).1
    reason_alone (Check fault) missing cause = (of_files told asked text input _ holds holds_input cause).1
    reason_alone (NoStart n) missing cause = (of_files told asked text input _ holds holds_input cause).1
    reason_alone (Graph n) missing cause = (of_files told asked text input _ holds holds_input cause).1
    reason_alone TooMany missing cause = (of_files told asked text input _ holds holds_input cause).1
    reason_alone (UndefinedAct n m) missing cause = (of_files told asked text input _ holds holds_input cause).1
    reason_alone MoreSteps missing cause = (of_files told asked text input _ holds holds_input cause).1
    reason_alone NoMemory missing cause = tt
