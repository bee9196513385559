-- What workers came to, one after the other.
use Rattle.std.proofs.Common.{List, ◌++◌, Result, Ok, Err}
use Rattle.mount_model.specs.declared.stuck.Stuck.{Stuck}
use Rattle.index_reader.specs.declared.sharing.Share.{Share}

-- these shares, and then the others
abbrev pub behind : List Share → Result (List Share) Stuck → Result (List Share) Stuck
behind shares (Ok others) = Ok (shares ++ others)
behind shares (Err because) = Err because
