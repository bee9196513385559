-- The worked examples of truncates, names, attributes and recovery, statement by statement.
use Rattle.std.specs.Prelude.{refl, [], ◌∷◌}
use Rattle.std.proofs.lemmas.List.Quantifiers.{Any-push}
use Rattle.plain_machine.specs.MoreExamples.{alive, attributes, buried, busy, held, held_room, ids_spent, left_open, over, renamed, spent_room, stamps_spent, truncated}
use Rattle.plain_machine.specs.Saying.{IsSaid, IsSaidFrom, one_actor, two_actors}

pub truncated_said : IsSaid one_actor (100 ∷ 1 ∷ []) truncated
truncated_said = (
  _,
  (
    _,
    (_, _, refl, refl, refl, (_, refl, (refl, refl))),
    (
      _,
      (_, _, refl, refl, refl, (_, _, refl, refl, (_, _, (refl, refl), (refl, refl)))),
      (
        _,
        (_, _, refl, refl, refl, (_, _, refl, refl, (refl, refl))),
        (
          _,
          (_, _, refl, refl, refl, (_, refl, (_, _, (refl, refl), (refl, refl)))),
          (
            _,
            (_, _, refl, refl, refl, (_, refl, (_, _, (refl, refl), (refl, refl)))),
            (
              _,
              (_, _, refl, refl, refl, (_, refl, (refl, refl))),
              (
                _,
                (_, _, refl, refl, refl, (refl, refl)),
                (
                  _,
                  (_, _, refl, refl, refl, (refl, refl)),
                  (
                    _,
                    (_, _, refl, refl, refl, (_, refl, (refl, refl))),
                    (
                      _,
                      (_, _, refl, refl, refl, (_, _, refl, refl, (_, _, (refl, refl), (refl, refl)))),
                      (
                        _,
                        (_, _, refl, refl, refl, (_, _, refl, refl, (refl, refl))),
                        (
                          _,
                          (_, _, refl, refl, refl, (_, refl, (refl, refl))),
                          (
                            _,
                            (_, _, refl, refl, refl, (refl, refl)),
                            refl,
                          ),
                        ),
                      ),
                    ),
                  ),
                ),
              ),
            ),
          ),
        ),
      ),
    ),
  ),
)

pub busy_said : IsSaid two_actors (10 ∷ 20 ∷ []) busy
busy_said = (
  _,
  (
    _,
    (_, _, refl, refl, refl, (_, refl, (refl, refl))),
    (
      _,
      (_, _, refl, refl, refl, (_, _, refl, refl, (_, _, (refl, refl), (refl, refl)))),
      (
        _,
        (_, _, refl, refl, refl, (_, refl, (_, (Any-push _ [] _ refl, (_, refl)), (refl, refl)))),
        (
          _,
          (_, _, refl, refl, refl, (_, _, refl, refl, (refl, refl))),
          (
            _,
            (_, _, refl, refl, refl, (_, refl, (_, _, (refl, refl), (refl, refl)))),
            refl,
          ),
        ),
      ),
    ),
  ),
)

pub alive_said : IsSaid two_actors (10 ∷ 20 ∷ []) alive
alive_said = (
  _,
  (
    _,
    (_, _, refl, refl, refl, (_, refl, (refl, refl))),
    (
      _,
      (_, _, refl, refl, refl, (_, _, refl, refl, (_, _, (refl, refl), (refl, refl)))),
      (
        _,
        (_, _, refl, refl, refl, (_, refl, (refl, refl))),
        (
          _,
          (_, _, refl, refl, refl, (_, refl, (_, (Any-push _ [] _ refl, (_, refl)), (refl, refl)))),
          refl,
        ),
      ),
    ),
  ),
)

pub renamed_said : IsSaid two_actors (10 ∷ []) renamed
renamed_said = (
  _,
  (
    _,
    (_, _, refl, refl, refl, (_, refl, (refl, refl))),
    (
      _,
      (_, _, refl, refl, refl, (_, _, refl, refl, (_, _, (refl, refl), (refl, refl)))),
      (
        _,
        (_, _, refl, refl, refl, (_, _, refl, refl, (refl, refl))),
        (
          _,
          (_, _, refl, refl, refl, (_, refl, (refl, refl))),
          (
            _,
            (_, _, refl, refl, refl, (_, _, refl, refl, (refl, refl))),
            (
              _,
              (_, _, refl, refl, refl, (_, refl, (refl, refl))),
              (
                _,
                (_, _, refl, refl, refl, (_, refl, (refl, refl))),
                (
                  _,
                  (_, _, refl, refl, refl, (refl, refl)),
                  (
                    _,
                    (_, _, refl, refl, refl, (refl, refl)),
                    (
                      _,
                      (_, _, refl, refl, refl, (refl, refl)),
                      (
                        _,
                        (_, _, refl, refl, refl, (_, refl, (refl, refl))),
                        (
                          _,
                          (_, _, refl, refl, refl, (_, refl, (refl, refl))),
                          (
                            _,
                            (_, _, refl, refl, refl, (_, refl, (refl, refl))),
                            (
                              _,
                              (_, _, refl, refl, refl, (refl, refl)),
                              refl,
                            ),
                          ),
                        ),
                      ),
                    ),
                  ),
                ),
              ),
            ),
          ),
        ),
      ),
    ),
  ),
)

pub attributes_said : IsSaid two_actors (10 ∷ []) attributes
attributes_said = (
  _,
  (
    _,
    (_, _, refl, refl, refl, (_, refl, (refl, refl))),
    (
      _,
      (_, _, refl, refl, refl, (_, _, refl, refl, (_, _, (refl, refl), (refl, refl)))),
      (
        _,
        (_, _, refl, refl, refl, (_, refl, (refl, refl))),
        (
          _,
          (_, _, refl, refl, refl, (_, _, refl, refl, (refl, refl))),
          (
            _,
            (_, _, refl, refl, refl, (_, refl, (refl, refl))),
            (
              _,
              (_, _, refl, refl, refl, (_, _, refl, refl, (refl, refl))),
              (
                _,
                (_, _, refl, refl, refl, (_, refl, (_, _, (refl, refl), (refl, refl)))),
                (
                  _,
                  (_, _, refl, refl, refl, (_, refl, (refl, refl))),
                  refl,
                ),
              ),
            ),
          ),
        ),
      ),
    ),
  ),
)

pub stamps_spent_said : IsSaidFrom one_actor (over spent_room 2 0) stamps_spent
stamps_spent_said = (
  _,
  (
    _,
    (_, _, refl, refl, refl, (_, refl, (refl, refl))),
    (
      _,
      (_, _, refl, refl, refl, (_, _, refl, refl, (refl, refl))),
      (
        _,
        (_, _, refl, refl, refl, (_, _, refl, refl, (refl, refl))),
        (
          _,
          (_, _, refl, refl, refl, (_, refl, (refl, refl))),
          (
            _,
            (_, _, refl, refl, refl, (_, refl, (refl, refl))),
            refl,
          ),
        ),
      ),
    ),
  ),
)

pub held_said : IsSaidFrom one_actor (over held_room 1 0) held
held_said = (
  _,
  (
    _,
    (_, _, refl, refl, refl, (_, refl, (refl, refl))),
    (
      _,
      (_, _, refl, refl, refl, (_, refl, (refl, refl))),
      (
        _,
        (_, _, refl, refl, refl, (_, refl, (refl, refl))),
        (
          _,
          (_, _, refl, refl, refl, (_, refl, (refl, refl))),
          (
            _,
            (_, _, refl, refl, refl, (_, refl, (refl, refl))),
            refl,
          ),
        ),
      ),
    ),
  ),
)

pub buried_said : IsSaidFrom one_actor (over left_open 2 0) buried
buried_said = (
  _,
  (
    _,
    (_, _, refl, refl, refl, (_, refl, (_, (Any-push _ [] _ refl, (_, refl)), (refl, refl)))),
    (
      _,
      (_, _, refl, refl, refl, (_, refl, (refl, refl))),
      (
        _,
        (_, _, refl, refl, refl, (_, refl, (_, _, (refl, refl), (refl, refl)))),
        refl,
      ),
    ),
  ),
)

pub ids_spent_said : IsSaidFrom one_actor (over spent_room 2 4294967295) ids_spent
ids_spent_said = (
  _,
  (
    _,
    (_, _, refl, refl, refl, (_, refl, (refl, refl))),
    (
      _,
      (_, _, refl, refl, refl, (_, refl, (refl, refl))),
      (
        _,
        (_, _, refl, refl, refl, (_, refl, (refl, refl))),
        (
          _,
          (_, _, refl, refl, refl, (_, refl, (refl, refl))),
          (
            _,
            (_, _, refl, refl, refl, (refl, refl)),
            refl,
          ),
        ),
      ),
    ),
  ),
)
