pub mod AmongLemmas
