-- What the walk along a stretch of a text answers.
use Rattle.std.specs.Prelude.{◌≡◌, ℕ, [], ◌∷◌, Result, Ok, Err, ◌⊎◌}
use Rattle.c_tree.specs.declared.raw.program.RawProgram.{RawProgram}
use Rattle.c_language.specs.Phrases.{Phrase, Phrases, phrases}
use Rattle.c_language.specs.Rules.{Breaks, IsBroken, KeepsAll, AreKept}
use Rattle.c_types_base.specs.Tables.{scope_of, IsAt}
use Rattle.c_types_base.specs.declared.fault.Fault.{Fault}
use Rattle.c_types_base.specs.declared.fault.Fault.TheVariants as fault
use Rattle.c_types_base.specs.declared.tables.Tables.{Tables}
use Rattle.c_types_base.specs.Stretches.{Stretch}
use Rattle.c_types_rules.specs.declared.walk_fault.WalkFault.{WalkFault}
use Rattle.c_types_rules.specs.declared.walk_fault.WalkFault.TheVariants.{Rule, NoMemory}

-- the phrase stands on the line, and breaks the rule with the number
abbrev pub BreaksOn : RawProgram → (number line : ℕ) → Phrase → Type 0
BreaksOn raw n line p = (p.line ≡ line) × Breaks raw p.scope p.part n

-- one of the phrases does, and none before it breaks a rule
abbrev pub BreaksFirst : RawProgram → (number line : ℕ) → Phrases → Type 0
BreaksFirst raw n line [] = ⊥
BreaksFirst raw n line (p ∷ ps) = BreaksOn raw n line p ⊎ (KeepsAll raw p × BreaksFirst raw n line ps)

-- a fault names a rule that the first of the phrases with a broken rule breaks, and its line; want of memory says nothing
abbrev pub Tells : RawProgram → Phrases → WalkFault → Type 0
Tells raw ps (Rule n line) = BreaksFirst raw n line ps
Tells raw ps NoMemory = Unit {0}

-- what is told where the check of a phrase on the line answers so
abbrev pub on_line : ℕ → Result (Unit {0}) Fault → Result (Unit {0}) WalkFault
on_line line (Ok x) = Ok x
on_line line (Err (fault.Rule n)) = Err (Rule n line)
on_line line (Err fault.NoMemory) = Err NoMemory

-- what is answered of some phrases
abbrev pub AnswersOf : {A : Type 0} → RawProgram → Phrases → Result A WalkFault → Type 0
AnswersOf raw ps (Ok x) = AreKept raw ps
AnswersOf raw ps (Err e) = Tells raw ps e

-- the stretch breaks no rule and the tables have come to its end, or a rule that it breaks is told
abbrev pub Walks : Stretch → (old new : Tables) → Result (Unit {0}) WalkFault → Type 0
Walks w old new (Ok x) = AreKept old.raw.now ((w old.raw.now).gives (scope_of old)) × IsAt old new ((w old.raw.now).after (scope_of old))
Walks w old new (Err e) = Tells old.raw.now ((w old.raw.now).gives (scope_of old)) e

-- a rule that is named is broken at the line that is named
abbrev pub NamesBroken : RawProgram → Result (Unit {0}) WalkFault → Type 0
NamesBroken raw (Ok x) = Unit {0}
NamesBroken raw (Err (Rule n line)) = IsBroken n line raw
NamesBroken raw (Err NoMemory) = Unit {0}

-- the rule that is named is broken by the first phrase of the text that breaks any; where no phrase does, it is the rule on main
abbrev pub NamesFirst : RawProgram → Result (Unit {0}) WalkFault → Type 0
NamesFirst raw (Ok x) = Unit {0}
NamesFirst raw (Err (Rule n line)) = BreaksFirst raw n line (phrases raw) ⊎ (AreKept raw (phrases raw) × (n ≡ 5) × (line ≡ 1))
NamesFirst raw (Err NoMemory) = Unit {0}
