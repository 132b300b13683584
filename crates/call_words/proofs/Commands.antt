-- The command that is made of a row, and what its matches say.
use Rattle.std.proofs.Common.{◌≡◌, ℕ, ◌+◌, ◌<◌, ◌≤◌, List, [], ◌∷◌, map, take, length, refl, sym, ap, ap₂, ◌∙◌, add-one, slice_index_or}
use Rattle.std.proofs.lemmas.List.{map-append, take_all}
use Rattle.std.proofs.Math.Seq.{take-suc}
use Rattle.clap.specs.Walk.{Rule}
use Rattle.clap.specs.Simple.{App, with_rule}
use Rattle.call_words.specs.Sorting.{Bytes}
use Rattle.call_words.specs.Clap.{words_rule, option_rule, with_rules, app_for}
use Rattle.call_words.specs.Forms.{option_view}
use Rattle.call_words.specs.declared.grammar.Kind.TheVariants.{File}
use Rattle.call_words.specs.declared.grammar.OptionForm.{OptionForm}

abbrev rule_for : OptionForm → Rule
rule_for o = option_rule o.name.now

abbrev pub no_option : OptionForm
no_option = record { name = record { ref_ptr = (0, 0); now = [] }; kind = File }

-- one more option
pub option_added : (name : Bytes) (options : List OptionForm) (i : ℕ) (command after : App) (rule : Rule) → i < length options
    → after ≡ with_rule command rule → rule ≡ rule_for (slice_index_or options i no_option) → command ≡ with_rules name (words_rule ∷ map rule_for (take i options))
    → after ≡ with_rules name (words_rule ∷ map rule_for (take (i + 1) options))
option_added name options i command after rule lt is rule_is before =
    is ∙ ap₂ with_rule before rule_is
    ∙ ap (λ rules. with_rules name (words_rule ∷ rules))
    (sym (map-append rule_for (take i options) (slice_index_or options i no_option ∷ [])) ∙ ap (map rule_for) (sym (take-suc options i no_option lt) ∙ ap (λ n. take n options) (sym (add-one i))))

names_of : (options : List OptionForm) → map rule_for options ≡ map option_rule (map (λ o. o.0) (map option_view options))
names_of [] = refl
names_of (o ∷ os) = ap (λ rules. rule_for o ∷ rules) (names_of os)

pub all_added : (name : Bytes) (options : List OptionForm) (i : ℕ) (command : App) → length options ≤ i → command ≡ with_rules name (words_rule ∷ map rule_for (take i options))
    → command ≡ app_for name (map (λ o. o.0) (map option_view options))
all_added name options i command end is =
    is ∙ ap (λ rules. with_rules name (words_rule ∷ rules)) (ap (map rule_for) (take_all i options end) ∙ names_of options)
