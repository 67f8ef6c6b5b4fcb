-- The plain data that declarations, differentiated equations and sentences stand for.
use Rattle.theory_meaning.specs.Declarations as plain
use Rattle.theory_derivative.specs.Differentiated as written
use Rattle.theory_syntax.specs.Plain.{expr_of}
use Rattle.theory_statics.specs.declared.declaring.Declared.{Declared}
use Rattle.theory_statics.specs.declared.declaring.Declared.TheVariants.{Variable, Parameter, Function}
use Rattle.theory_statics.specs.declared.equation.Differentiated as source

-- what a name is declared as
abbrev pub declared_of : Declared → plain.Declared
declared_of Variable = plain.variable
declared_of Parameter = plain.parameter
declared_of (Function arguments) = plain.function_of arguments.now

-- an equation differentiated along a parameter
abbrev pub differentiated_of : source.Differentiated → written.Differentiated
differentiated_of d = record { label = d.label; by = d.by; left = expr_of d.left; right = expr_of d.right }
