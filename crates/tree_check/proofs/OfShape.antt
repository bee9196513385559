-- What is found of a container's writers and truncates is of its shape.
use Rattle.std.proofs.Common.{inl, inr, List, Result, Ok, Err, refl, sym, subst}
use Rattle.std.specs.Prelude.{IfErr}
use Rattle.plfs_types.specs.declared.names.Path.{Path}
use Rattle.mount_model.specs.Paths.{Name}
use Rattle.shape_check.specs.declared.finding.Finding.{Finding}
use Rattle.shape_check.specs.Rightness.{IsOfShape}
use Rattle.shape_check.proofs.Facts.{memory_shape}
use Rattle.tree_check.specs.Owners.{IsTwoHosts}
use Rattle.tree_check.specs.Truncates.{IsTwoTruncs}

hosts_shape : (room : Name) (paths : List Path) (finding : Finding) → IsTwoHosts room paths finding → IsOfShape room finding
hosts_shape room paths finding (inl none) = memory_shape room finding none
hosts_shape room paths finding (inr wrong) = subst (IsOfShape room) (sym wrong.5) (refl, refl)

pub two_hosts_shape : {A : Type 0} (room : Name) (paths : List Path) (result : Result A Finding) → IfErr result (IsTwoHosts room paths) → IfErr result (IsOfShape room)
two_hosts_shape room paths (Ok value) wrong = tt
two_hosts_shape room paths (Err finding) wrong = hosts_shape room paths finding wrong

truncs_shape : (room : Name) (paths : List Path) (finding : Finding) → IsTwoTruncs room paths finding → IsOfShape room finding
truncs_shape room paths finding (inl none) = memory_shape room finding none
truncs_shape room paths finding (inr wrong) = subst (IsOfShape room) (sym wrong.8) (refl, refl)

pub two_truncs_shape : {A : Type 0} (room : Name) (paths : List Path) (result : Result A Finding) → IfErr result (IsTwoTruncs room paths) → IfErr result (IsOfShape room)
two_truncs_shape room paths (Ok value) wrong = tt
two_truncs_shape room paths (Err finding) wrong = truncs_shape room paths finding wrong
