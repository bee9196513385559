-- What other crates may cite of this crate's proofs.
pub use Rattle.mount_sound.proofs.Shapes.Held.{empty_shaped, item_drawn, item_held, left_shaped}
pub use Rattle.mount_sound.proofs.Shapes.Items.{id_fits}
pub use Rattle.mount_sound.proofs.Shapes.Losing.{lost_shaped}
pub use Rattle.mount_sound.proofs.Shapes.Mounts.{failed_shape, mounted_shape}
pub use Rattle.mount_sound.proofs.Shapes.Steps.{step_shape}
pub use Rattle.mount_sound.proofs.Shapes.Trees.{container_at, has_shape, shape_of}
