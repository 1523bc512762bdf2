-- Sets in words keep the laws. Assumes nothing.
use Rattle.std.proofs.Common.{refl}
use Rattle.numbers.specs.SetsLawful.{term_laws, role_laws}
use Rattle.numbers.proofs.Turning.{turned_members}
use Rattle.calculus.specs.Makes.{LawfulMakes, words}

pub lawful_words : LawfulMakes words
lawful_words = record { terms = term_laws; roles = role_laws; roles_limit = refl; turned_has = turned_members }
