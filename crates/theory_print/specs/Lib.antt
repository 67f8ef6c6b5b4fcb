pub use Rattle.theory_grammar.specs.Printed
pub use Rattle.theory_syntax.specs.Plain
