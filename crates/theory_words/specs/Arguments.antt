-- What stands behind the first word of each command: the arguments that `clap` is given.
use Rattle.std.specs.Prelude.{◌≡◌, List, [], ◌∷◌, map, codes, true, Some}
use Rattle.std.specs.Borrow.{Bor}
use Rattle.clap.specs.Words.{App, Rule, Text, new_app, new_rule, with_rule}
use Rattle.clap.specs.declared.builder.value_parser.ValueParser.TheVariants.{Names}
use Rattle.clap.specs.declared.builder.action.ArgAction.TheVariants.{Set}
use Rattle.theory_meaning.specs.declared.words.Kind.{Kind}
use Rattle.theory_meaning.specs.declared.words.Kind.TheVariants as kind

-- the orders of elimination, each with its name
abbrev pub orders : List (Text × Kind)
orders =
    (codes "listed", kind.Listed) ∷ (codes "rare", kind.Rare) ∷ (codes "unit", kind.Unit)
    ∷ (codes "signed", kind.Signed) ∷ []

-- texts behind references, which stand somewhere in memory
abbrev pub Texts : Type 0
Texts = Bor (List (Bor Text))

-- the texts are the names of orders
abbrev pub AreOrderNames : Texts → Type 0
AreOrderNames texts = map (λ text. text.now) texts.now ≡ map (λ entry. entry.0) orders

-- a reference to a value, at a place that doesn't matter
abbrev pub lent : {T : Type 0} → T → Bor T
lent value = record { ref_ptr = (0, 0); now = value }

-- the names of orders
abbrev pub order_names : Texts
order_names = lent (map (λ entry. lent entry.0) orders)

-- `FILE`: one word, and there has to be one
abbrev pub file : Rule
file = record (new_rule (codes "file")) { required = true; action = Some Set }

-- `--order NAME`: once, one of the names, and `unit` where it isn't given
abbrev pub order : Texts → Rule
order names = record (new_rule (codes "order")) {
  long = Some (codes "order");
  action = Some Set;
  parser = Some (Names names);
  defaults = codes "unit" ∷ [];
}

-- `--on NAMES`: one value, once or not at all; it is cut at its commas afterwards
abbrev pub on : Rule
on = record (new_rule (codes "on")) { long = Some (codes "on"); action = Some Set }

-- no argument, no flag for help or a version, and no program's name before the words
abbrev pub bare : Text → App
bare name = record (new_app name) {
  top = record (new_app name).top { no_binary_name = true; disable_help_flag = true; disable_version_flag = true };
}

-- `FILE [--order NAME] [--on NAMES]` with these names of orders
abbrev pub check_with : Texts → App
check_with names = with_rule (with_rule (with_rule (bare (codes "check")) file) (order names)) on

-- what stands behind `check`: `FILE [--order NAME] [--on NAMES]`
abbrev pub check_arguments : App
check_arguments = check_with order_names

-- what stands behind `derive`: `FILE`
abbrev pub derive_arguments : App
derive_arguments = with_rule (bare (codes "derive")) file
